-- Passes of a new lock that have made calls and are joined into two of them.
use Rattle.tests_runs.proofs.Imports.{◌≡◌, ◌⊎◌, ℕ, ◌+◌, ◌<◌, ◌^◌, List, [], ◌∷◌, ◌++◌, length, slice_get, inl, inr, ⊎_elim, ap, sym, ◌∙◌, subst, arith, length-append, dite, ℕ_discrete, TableId, View, Has, has_left, has_right, IsSamePass, IsFresh, AreFresh, at_last, at_before}

module _ {N : Type 0} (t : TableId) (n : ℕ) where
  -- how far passes are joined into two of them
  pub record InTwo (rest : List (TableId × View N)) (odd even : TableId × View N) : Type 0 where
    pub rest_fresh : AreFresh t n rest
    pub odd_own : odd.0 ≡ t
    pub even_own : even.0 ≡ t
    pub odd_callers : odd.1.callers ≡ n
    pub numbers : (w : ℕ) → w < n → (w < length rest) ⊎ (Has odd.1.numbers w ⊎ Has even.1.numbers w)

  module _ (ps ys : List (TableId × View N)) (p : TableId × View N) (f : AreFresh t n ps) (e : ps ≡ ys ++ p ∷ []) where
    -- the last of fresh passes
    pub is_last : IsFresh t n (length ys) p
    is_last = f (length ys) p (ap (λ (l : List (TableId × View N)). slice_get l (length ys)) e ∙ at_last ys p)

    still_fresh : AreFresh t n ys
    still_fresh i q h = f i q (ap (λ (l : List (TableId × View N)). slice_get l i) e ∙ at_before ys (p ∷ []) i q h)

    pub fresh_own : p.0 ≡ t
    fresh_own = ap (λ (z : TableId × View N). z.0) is_last

    pub fresh_left : 0 < p.1.left
    fresh_left = let left : p.1.left ≡ 2 ^ 44 = ap (λ (z : TableId × View N). z.1.left) is_last in omega arith

    numbers_of : p.1.numbers ≡ length ys ∷ []
    numbers_of = ap (λ (z : TableId × View N). z.1.numbers) is_last

    one_more : length ps ≡ length ys + 1
    one_more = ap length e ∙ length-append ys (p ∷ [])

    -- it has its number, and so has the pass that it is joined into
    pub has_it : (w : ℕ) → w ≡ length ys → Has p.1.numbers w
    has_it w here = subst (λ (l : List ℕ). Has l w) (sym numbers_of) (inl (sym here))

  -- the first two
  pub two_begun : (xs ys zs : List (TableId × View N)) (p q odd even : TableId × View N) → AreFresh t n xs → length xs ≡ n → xs ≡ ys ++ p ∷ [] → ys ≡ zs ++ q ∷ [] → IsSamePass p odd → IsSamePass q even → InTwo zs odd even
  two_begun xs ys zs p q odd even f long e d s r =
      let g : AreFresh t n ys = still_fresh xs ys p f e in let ly = one_more xs ys p f e in let lz = one_more ys zs q g d in record {
        rest_fresh = still_fresh ys zs q g d;
        odd_own = s.0 ∙ fresh_own xs ys p f e;
        even_own = r.0 ∙ fresh_own ys zs q g d;
        odd_callers = s.3 ∙ ap (λ (z : TableId × View N). z.1.callers) (is_last xs ys p f e);
        numbers = λ w below. dite (ℕ_discrete w (length ys))
            (λ here. inr (inl (subst (λ (l : List ℕ). Has l w) (sym s.2) (has_it xs ys p f e w here))))
            (λ other. dite (ℕ_discrete w (length zs))
            (λ here. inr (inr (subst (λ (l : List ℕ). Has l w) (sym r.2) (has_it ys zs q g d w here))))
            (λ more. inl (omega arith)));
      }

  module _ (xs ys : List (TableId × View N)) (p odd even new : TableId × View N) (i : InTwo xs odd even) (e : xs ≡ ys ++ p ∷ []) where
    -- one more is joined into the first
    pub odd_more : new.0 ≡ odd.0 → new.1.callers ≡ odd.1.callers → new.1.numbers ≡ odd.1.numbers ++ p.1.numbers → InTwo ys new even
    odd_more own callers numbers = let ly = one_more xs ys p i.rest_fresh e in record {
      rest_fresh = still_fresh xs ys p i.rest_fresh e;
      odd_own = own ∙ i.odd_own;
      even_own = i.even_own;
      odd_callers = callers ∙ i.odd_callers;
      numbers = λ w below. dite (ℕ_discrete w (length ys))
          (λ here. inr (inl (subst (λ (l : List ℕ). Has l w) (sym numbers) (has_right odd.1.numbers p.1.numbers w (has_it xs ys p i.rest_fresh e w here)))))
          (λ other. ⊎_elim (λ low. inl (omega arith)) (λ h. inr (⊎_elim (λ x. inl (subst (λ (l : List ℕ). Has l w) (sym numbers) (has_left odd.1.numbers p.1.numbers w x))) (λ x. inr x) h)) (i.numbers w below));
    }

    -- one more is joined into the second
    pub even_more : new.0 ≡ even.0 → new.1.numbers ≡ even.1.numbers ++ p.1.numbers → InTwo ys odd new
    even_more own numbers = let ly = one_more xs ys p i.rest_fresh e in record {
      rest_fresh = still_fresh xs ys p i.rest_fresh e;
      odd_own = i.odd_own;
      even_own = own ∙ i.even_own;
      odd_callers = i.odd_callers;
      numbers = λ w below. dite (ℕ_discrete w (length ys))
          (λ here. inr (inr (subst (λ (l : List ℕ). Has l w) (sym numbers) (has_right even.1.numbers p.1.numbers w (has_it xs ys p i.rest_fresh e w here)))))
          (λ other. ⊎_elim (λ low. inl (omega arith)) (λ h. inr (⊎_elim (λ x. inl x) (λ x. inr (subst (λ (l : List ℕ). Has l w) (sym numbers) (has_left even.1.numbers p.1.numbers w x))) h)) (i.numbers w below));
    }

  -- the two are joined
  pub both_whole : (xs : List (TableId × View N)) (odd even new : TableId × View N) → InTwo xs odd even → xs ≡ [] → new.1.callers ≡ odd.1.callers → new.1.numbers ≡ odd.1.numbers ++ even.1.numbers → (w : ℕ) → w < new.1.callers → Has new.1.numbers w
  both_whole xs odd even new i e callers numbers w below =
      let none : length xs ≡ 0 = ap length e in let all : new.1.callers ≡ n = callers ∙ i.odd_callers in
      subst (λ (l : List ℕ). Has l w) (sym numbers) (⊎_elim (λ low. absurd (omega arith)) (λ h. ⊎_elim (λ x. has_left odd.1.numbers even.1.numbers w x) (λ x. has_right odd.1.numbers even.1.numbers w x) h) (i.numbers w (omega arith)))
