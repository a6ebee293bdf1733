-- The members of a list with one more, and of a mapped list.
use Rattle.std.proofs.Common.{◌≡◌, ℕ, zero, suc, List, [], ◌∷◌, ◌++◌, length, map, slice_get, Some, ⊎_elim, refl, ap, sym, subst, ◌∙◌}
use Rattle.lemmas.proofs.Lists.{at_end}

-- what each member of a list is at its place, each member of the list with one more is
pub each_more : {A : Type 0} (P : ℕ → A → Type 0) (xs new : List A) (a : A) (n : ℕ) → new ≡ xs ++ a ∷ [] → n ≡ length xs → ((k : ℕ) (x : A) → slice_get xs k ≡ Some x → P k x) → P n a
    → (k : ℕ) (x : A) → slice_get new k ≡ Some x → P k x
each_more P xs new a n e long all one k x at =
    ⊎_elim (λ old. all k x old) (λ last. subst (λ (i : ℕ). P i x) (long ∙ sym last.0) (subst (P n) last.1 one)) (at_end xs a x k (ap (λ l. slice_get l k) (sym e) ∙ at))

-- a member of a mapped list is what is made of a member
pub mapped : {A B : Type 0} (f : A → B) (xs : List A) (k : ℕ) (b : B) → slice_get (map f xs) k ≡ Some b → (a : A) × (slice_get xs k ≡ Some a) × (f a ≡ b)
mapped f [] k b e = absurd (cc e)
mapped f (x ∷ xs) zero b e = (x, refl, cc e)
mapped f (x ∷ xs) (suc k) b e = mapped f xs k b e
