-- A Read in a capture is answered by one of five responses.
use Rattle.dmx_calls.proofs.Imports.{ℕ, ◌≡◌, refl, Bool, true, false, List, [], ◌∷◌, Option, Some, None, take, if◌then◌else◌, nat_eq, option_map, Response, Data, Again, Overflow, TimedOut, Misfit, Ledger, is_empty, ReadTerms, most_bytes, first_of, timed_out_of, response_of_read}

-- what holds of each of them holds of the answer
module _ (P : Response → Type 0) (t : ReadTerms) (l : Ledger) (expired : Option ℕ) (count : ℕ)
    (over : (x : Misfit) → l.over ≡ Some x → is_empty l.unread ≡ true → P (Overflow l.answered l.total x.item x.need x.room))
    (timed_out : (moment : ℕ) → expired ≡ Some moment → P (TimedOut l.started moment t.timeout))
    (nothing : P (Data []))
    (again : P (Again t.has_ended))
    (bytes : P (Data (take (most_bytes t.by_section l count) l.unread))) where
  abbrev last : Response
  last = Data (take (most_bytes t.by_section l count) l.unread)

  abbrev from_again : List (Option Response)
  from_again = (if nat_eq l.answered l.total then Some (Again t.has_ended) else None) ∷ []

  abbrev from_nothing : List (Option Response)
  from_nothing = (if nat_eq count 0 then Some (Data []) else None) ∷ from_again

  by_place : (b : Bool) → P (first_of ((if b then Some (Again t.has_ended) else None) ∷ []) last)
  by_place true = again
  by_place false = bytes

  by_count : (b : Bool) → P (first_of ((if b then Some (Data []) else None) ∷ from_again) last)
  by_count true = nothing
  by_count false = by_place (nat_eq l.answered l.total)

  by_expiry : (b : Bool) (x : Option ℕ) → expired ≡ x → P (first_of ((if b then None else option_map (λ moment. TimedOut l.started moment t.timeout) x) ∷ from_nothing) last)
  by_expiry true x is = by_count (nat_eq count 0)
  by_expiry false None is = by_count (nat_eq count 0)
  by_expiry false (Some moment) is = timed_out moment is

  by_over : (b : Bool) (o : Option Misfit) → is_empty l.unread ≡ b → l.over ≡ o
      → P (first_of (option_map (λ y. Overflow l.answered l.total y.item y.need y.room) (if b then o else None) ∷ timed_out_of t l expired ∷ from_nothing) last)
  by_over true None none is = by_expiry l.is_told expired refl
  by_over true (Some y) none is = over y is none
  by_over false o some is = by_expiry l.is_told expired refl

  pub read_each : P (response_of_read t (Some l) expired count)
  read_each = by_over (is_empty l.unread) l.over refl refl
