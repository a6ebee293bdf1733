-- A row of passes of which one is changed.
use Rattle.adapter.proofs.Imports.{◌≡◌, ℕ, List, slice_get, set, Some, ap, sym, ◌∙◌, length-set, slice_get_within, dite, ℕ_discrete, TableId, View, Fits}
use Rattle.adapter.proofs.Lists.{set_there, set_elsewhere, one_value}

-- the pass in one place of a row is changed, and is still one of the lock there
pub fits_set : {N : Type 0} (locks : List TableId) (ps : List (TableId × View N)) (n : ℕ) (p q : TableId × View N) → Fits locks ps → slice_get ps n ≡ Some p → q.0 ≡ p.0 → Fits locks (set ps n q)
fits_set {N = N} locks ps n p q f at same = (
  length-set ps n q ∙ f.0,
  λ i l r a b. dite (ℕ_discrete i n)
      (λ here. let e : q ≡ r = one_value (set ps n q) n q r (set_there ps n q (slice_get_within ps n p at)) (ap (slice_get (set ps n q)) (sym here) ∙ b) in
      ap (λ (z : TableId × View N). z.0) (sym e) ∙ (same ∙ f.1 n l p (ap (slice_get locks) (sym here) ∙ a) at))
      (λ other. f.1 i l r a (sym (set_elsewhere ps n i q other) ∙ b)),
)
