-- Members of lists of which one is changed, or to which one is added.
pub use Rattle.lemmas.proofs.Lists.{at_place, one_value, at_last, at_before, at_end}
use Rattle.std.proofs.Common.{◌≡◌, ◌≢◌, ◌⊎◌, ℕ, zero, suc, ◌<◌, List, [], ◌∷◌, ◌++◌, length, slice_get, set, Some, inl, inr, refl, ap, arith}

pub set_there : {A : Type 0} (l : List A) (i : ℕ) (a : A) → i < length l → slice_get (set l i a) i ≡ Some a
set_there [] i a h = absurd (omega arith)
set_there (x ∷ xs) zero a h = refl
set_there (x ∷ xs) (suc i) a h = set_there xs i a (omega arith)

pub set_elsewhere : {A : Type 0} (l : List A) (i j : ℕ) (a : A) → j ≢ i → slice_get (set l i a) j ≡ slice_get l j
set_elsewhere [] i j a n = refl
set_elsewhere (x ∷ xs) zero zero a n = absurd (n refl)
set_elsewhere (x ∷ xs) zero (suc j) a n = refl
set_elsewhere (x ∷ xs) (suc i) zero a n = refl
set_elsewhere (x ∷ xs) (suc i) (suc j) a n = set_elsewhere xs i j a (λ e. n (ap suc e))

-- a member of a list with one more is a member of the list, or that one
pub at_either : {A : Type 0} (l : List A) (a b : A) (i : ℕ) → slice_get (l ++ a ∷ []) i ≡ Some b → (slice_get l i ≡ Some b) ⊎ (a ≡ b)
at_either [] a b zero e = inr (cc e)
at_either [] a b (suc i) e = absurd (cc e)
at_either (x ∷ xs) a b zero e = inl e
at_either (x ∷ xs) a b (suc i) e = at_either xs a b i e
