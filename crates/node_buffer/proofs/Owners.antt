-- The owner of a node, of whichever kind, and the calls that only it may make.
use Rattle.node_buffer.proofs.Imports.{ℕ, ◌≡◌, refl, sym, ◌∙◌, ap, subst, Bool, true, false, Option, Some, None, arith, nat_eq, not, if◌then◌else◌, nat_tests, NodeKind, Errno, Ebadf, Invocation, Response, History, Since, tenure, Rules, Facts, is_for_anybody, is_owned_by, refusal_to, response_to, response_unless, OrNoMemory, GivesBy, owner_refusal, owner, facts}

-- ------ by the owner test

by_test : (anybody owned : Bool) (o : Option Errno) → anybody ≡ false → owned ≡ true → (if anybody then None else (if not owned then Some Ebadf else o)) ≡ o
by_test anybody owned o not_all own = rw (not_all, own) refl

module _ (kind : NodeKind) (f : Facts) (who : ℕ) (call : Invocation) (not_all : is_for_anybody kind call ≡ false) where
  -- who isn't refused owns the node
  pub owned : refusal_to kind f who call ≡ None → is_owned_by who f.owner ≡ true
  owned is = by_owned (is_owned_by who f.owner) refl where
    by_owned : (b : Bool) → is_owned_by who f.owner ≡ b → is_owned_by who f.owner ≡ true
    by_owned true y = y
    by_owned false n = absurd (let none : Some Ebadf ≡ None = rw (not_all, n) at is in cc)

  module _ (held : f.owner ≡ Some who) (granted : owner_refusal kind f call ≡ None) where
    not_refused : refusal_to kind f who call ≡ None
    not_refused =
        let same : nat_eq who who ≡ true = grind (arith, nat_tests) in
        by_test (is_for_anybody kind call) (is_owned_by who f.owner) (owner_refusal kind f call) not_all (ap (is_owned_by who) held ∙ same) ∙ granted

    -- what the owner is answered to a call that isn't refused is what the node gives to it
    pub gives_granted : (g : Facts) (r : Response) → OrNoMemory f call (response_to f g call) r → GivesBy kind f g who call r
    gives_granted g r =
        let P : Response → Type 0 = λ answer. OrNoMemory f call answer r in
        subst P (sym (ap (λ o. response_unless o (response_to f g call)) not_refused))

-- ------ by the history

owner_tenure : (h : History) (who : ℕ) → is_owned_by who (owner h) ≡ true → (t : Since) × (tenure h ≡ Some t)
unfolding owner
owner_tenure h who is = by_tenure (tenure h) refl where
  by_tenure : (o : Option Since) → tenure h ≡ o → (t : Since) × (tenure h ≡ Some t)
  by_tenure None none = absurd (let nay : false ≡ true = rw none at is in cc)
  by_tenure (Some t) held = (t, held)

-- a node of whose calls one that isn't everybody's isn't refused has a tenure
pub holds : (node : Rules) (h : History) (who : ℕ) (call : Invocation) → is_for_anybody node.kind call ≡ false → refusal_to node.kind (facts node h) who call ≡ None
    → (t : Since) × (tenure h ≡ Some t)
unfolding facts
holds node h who call not_all is = owner_tenure h who (owned node.kind (facts node h) who call not_all is)
