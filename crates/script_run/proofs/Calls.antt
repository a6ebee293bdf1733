-- One call more of a client, and the order of its calls on a node.
use Rattle.script_run.proofs.Imports.{◌≡◌, refl, sym, ap, subst, ◌∙◌, ℕ, ◌+◌, ◌<◌, ◌≤◌, Bool, true, false, nat_lt, List, [], ◌∷◌, ◌++◌, length, take, Some, slice_get, arith, nat_tests, ⊎_elim, slice_get_within, take-append-le, take-append_seam, at_end, one_value, LogEntry, Scripted, plays_of, next_event, IsEvent, replies, InTurn, AreAsked, AreInOrder}

module _ (log : List LogEntry) (x : LogEntry) where
  -- the calls before one of these
  pub before : (i : ℕ) → i ≤ length log → take i (log ++ x ∷ []) ≡ take i log
  before i le = take-append-le i log (x ∷ []) le

  pub turn_more : (who : ℕ) → InTurn who log → x.step ≡ length log → x.who ≡ who → InTurn who (log ++ x ∷ [])
  turn_more who turn step is i e at =
      ⊎_elim (λ old. turn i e old) (λ new. subst (λ (y : LogEntry). (y.step ≡ i) × (y.who ≡ who)) new.1 (step ∙ sym new.0, is)) (at_end log x e i at)

  module _ (script : Scripted) (client : ℕ) where
    abbrev Asks : List LogEntry → LogEntry → Type 0
    Asks made e = IsEvent (plays_of client script) (next_event client script (replies made)) e

    pub asked_more : AreAsked script client log → Asks log x → AreAsked script client (log ++ x ∷ [])
    asked_more asked next i e at = ⊎_elim
        (λ old. subst (λ made. Asks made e) (sym (before i (let low = slice_get_within log i e old in omega (arith, low)))) (asked i e old))
        (λ new. subst (λ (y : LogEntry). Asks (take i (log ++ x ∷ [])) y) new.1 (subst (λ made. Asks made x) (sym (ap (λ n. take n (log ++ x ∷ [])) new.0 ∙ take-append_seam log (x ∷ []))) next))
        (at_end log x e i at)

  pub order_more : AreInOrder log → ((i : ℕ) (e : LogEntry) → slice_get log i ≡ Some e → e.node ≡ x.node → e.place < x.place) → AreInOrder (log ++ x ∷ [])
  order_more order behind i j e f lt a b same = ⊎_elim
      (λ old_j. ⊎_elim (λ old_i. order i j e f lt old_i old_j same)
      (λ new_i. absurd (let low = slice_get_within log j f old_j in omega (arith, lt, low, new_i.0)))
      (at_end log x e i a))
      (λ new_j. ⊎_elim
      (λ old_i. subst (λ (y : LogEntry). e.place < y.place) new_j.1 (behind i e old_i (same ∙ sym (ap (λ (y : LogEntry). y.node) new_j.1))))
      (λ new_i. absurd (omega (arith, lt, new_i.0, new_j.0)))
      (at_end log x e i a))
      (at_end log x f j b)

-- a call that stands before another on a node was made before it
pub made_before : (log : List LogEntry) → AreInOrder log → (i j : ℕ) (e f : LogEntry) → slice_get log i ≡ Some e → slice_get log j ≡ Some f → e.node ≡ f.node → e.place < f.place → i < j
made_before log order i j e f a b same lt = go (nat_lt i j) refl (nat_lt j i) refl where
  go : (u : Bool) → nat_lt i j ≡ u → (v : Bool) → nat_lt j i ≡ v → i < j
  go true less v any = grind (arith, nat_tests, less)
  go false nay true more = absurd (let back = order j i f e (grind (arith, nat_tests, more)) b a (sym same) in omega (arith, lt, back))
  go false nay false nor =
      let is : i ≡ j = grind (arith, nat_tests, nay, nor) in
      absurd (omega (arith, lt, ap (λ (x : LogEntry). x.place) (one_value log j e f (subst (λ n. slice_get log n ≡ Some e) is a) b)))
