-- A call that is not refused is accepted, unless it opens a node that has an owner.
use Rattle.node_buffer.proofs.Imports.{ℕ, ◌≡◌, refl, sym, ◌∙◌, ap, Bool, true, false, Option, Some, None, inl, inr, ◌⊎◌, if◌then◌else◌, nat_eq, Invocation, Open, Close, SetFilter, SetPes, Start, SetSize, Read, Response, Busy, is_accepted, TapChange, Ledger, Facts, read_terms, read_response, expired_of, open_response, done_dropping, response_to, read_each}
use Rattle.node_buffer.proofs.Silences.{accepted_of, dropping}

pub dropping_accepted : (o : Option Ledger) (tap : TapChange) → is_accepted (done_dropping o tap) ≡ true
dropping_accepted o tap = accepted_of (done_dropping o tap) (dropping o tap)

either_accepted : (b : Bool) (x y : Response) → is_accepted x ≡ true → is_accepted y ≡ true → is_accepted (if b then x else y) ≡ true
either_accepted true x y ok_x ok_y = ok_x
either_accepted false x y ok_x ok_y = ok_y

pub read_accepted : (f : Facts) (o : Option Ledger) (x : Option ℕ) (count : ℕ) → is_accepted (read_response f o x count) ≡ true
read_accepted f None x count = refl
read_accepted f (Some l) x count = read_each (λ r. is_accepted r ≡ true) (read_terms f) l x count (λ m is none. refl) (λ moment is. refl) refl refl refl

open_or : (call : Invocation) → (call ≡ Open) ⊎ ((f g : Facts) → is_accepted (response_to f g call) ≡ true)
open_or Open = inl refl
open_or Close = inr (λ f g. dropping_accepted f.ledger _)
open_or (SetFilter p now) = inr (λ f g. dropping_accepted f.ledger _)
open_or (SetPes p now) = inr (λ f g. dropping_accepted f.ledger _)
open_or (Start now) = inr (λ f g. dropping_accepted f.ledger _)
open_or (SetSize n) = inr (λ f g. either_accepted (nat_eq n f.size) _ _ refl (dropping_accepted f.ledger _))
open_or (Read now count) = inr (λ f g. read_accepted f f.ledger (expired_of g.ledger) count)
open_or _ = inr (λ f g. refl)

-- who isn't accepted, but not refused, opened a node that has an owner
pub opened : (f g : Facts) (call : Invocation) (r : Response) → response_to f g call ≡ r → is_accepted r ≡ false → (owner : ℕ) × (call ≡ Open) × (f.owner ≡ Some owner) × (r ≡ Busy owner)
opened f g call r is nay = elim (open_or call) [
  | inl is_open ↦ by_open call is_open is
  | inr ok ↦ absurd (let yea : is_accepted r ≡ true = rw (← is) (ok f g) in let k : false ≡ true = sym nay ∙ yea in cc)
] where
  by_owner : (o : Option ℕ) → f.owner ≡ o → open_response o ≡ r → (owner : ℕ) × (f.owner ≡ Some owner) × (r ≡ Busy owner)
  by_owner None none is = absurd (let k : true ≡ false = ap is_accepted is ∙ nay in cc)
  by_owner (Some w) some is = (w, some, sym is)

  by_open : (call : Invocation) → call ≡ Open → response_to f g call ≡ r → (owner : ℕ) × (call ≡ Open) × (f.owner ≡ Some owner) × (r ≡ Busy owner)
  by_open call is_open is =
      let is' : open_response f.owner ≡ r = rw is_open at is in
      let k = by_owner f.owner refl is' in
      (k.0, is_open, k.1, k.2)
