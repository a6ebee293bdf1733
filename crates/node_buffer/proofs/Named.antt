-- Of packets those that are named: a packet that isn't is passed over.
use Rattle.node_buffer.proofs.Imports.{◌≡◌, ◌∙◌, ℕ, suc, ◌+◌, ◌<◌, Bool, true, false, List, [], ◌∷◌, Some, length, get_or, drop, refl, sym, ap, arith, filter, slice_get, drop_more}
use Rattle.node_buffer.proofs.Arrivals.{drop-one}

module _ (test : List ℕ → Bool) where
  filter-skip : (p : List ℕ) (ps : List (List ℕ)) → test p ≡ false → filter test (p ∷ ps) ≡ filter test ps
  filter-skip p ps nay = rw nay refl

  pub named-skip : (packets : List (List ℕ)) (i : ℕ) → i < length packets → test (get_or packets i []) ≡ false
      → filter test (drop (i + 1) packets) ≡ filter test (drop i packets)
  named-skip packets i within nay =
      sym (ap (filter test) (drop_more packets i [] within) ∙ filter-skip (get_or packets i []) (drop (i + 1) packets) nay)

  filter-first : (p : List ℕ) (ps : List (List ℕ)) → test p ≡ true → filter test (p ∷ ps) ≡ p ∷ filter test ps
  filter-first p ps yea = rw yea refl

  pub named-next : (packets : List (List ℕ)) (i : ℕ) (p : List ℕ) → slice_get packets i ≡ Some p → test p ≡ true
      → filter test (drop i packets) ≡ p ∷ filter test (drop (i + 1) packets)
  named-next packets i p at yea = rw (drop-one packets i p at) (filter-first p (drop (i + 1) packets) yea)

  pub none-named : (packets : List (List ℕ)) → ((i : ℕ) → i < length packets → test (get_or packets i []) ≡ false) → filter test packets ≡ []
  none-named [] each = refl
  none-named (p ∷ ps) each = filter-skip p ps (each 0 (omega arith)) ∙ none-named ps (λ i l. each (suc i) (omega arith))
