-- Rows of passes that are joined place by place, the last place first.
use Rattle.adapter.proofs.Imports.{◌≡◌, ⊎_elim, ℕ, ◌+◌, ◌<◌, ◌≤◌, List, [], ◌∷◌, ◌++◌, length, slice_get, set, Some, ap, sym, ◌∙◌, subst, arith, length-append, slice_get_within, dite, ℕ_discrete, TableId, View, Fits, OneJoins, AllJoin}
use Rattle.adapter.proofs.Lists.{set_there, set_elsewhere, at_last, at_before, one_value, at_end}
use Rattle.adapter.proofs.Fitting.{fits_set}

module _ {N : Type 0} (locks : List TableId) (old other : List (TableId × View N)) where
  -- the places from the end of `rest` on are joined, and the others are as they were
  pub record RowJoined (rest now : List (TableId × View N)) : Type 0 where
    pub fits : Fits locks now
    pub theirs : Fits locks other
    pub begins : (i : ℕ) (q : TableId × View N) → slice_get rest i ≡ Some q → slice_get other i ≡ Some q
    pub few : length rest ≤ length other
    pub later : (i : ℕ) (p : TableId × View N) → i < length rest → slice_get now i ≡ Some p → slice_get old i ≡ Some p
    pub done : (i : ℕ) (p q r : TableId × View N) → length rest ≤ i → slice_get old i ≡ Some p → slice_get other i ≡ Some q → slice_get now i ≡ Some r → OneJoins p q r

  -- the pass that is taken is of the lock in its place
  pub last_theirs : (rest ys now : List (TableId × View N)) (q : TableId × View N) (l : TableId) → RowJoined rest now → rest ≡ ys ++ q ∷ [] → slice_get locks (length ys) ≡ Some l → q.0 ≡ l
  last_theirs rest ys now q l j e at = j.theirs.1 (length ys) l q at (j.begins (length ys) q (ap (λ (z : List (TableId × View N)). slice_get z (length ys)) e ∙ at_last ys q))

  pub next_row : (rest ys now : List (TableId × View N)) (p q r : TableId × View N) → RowJoined rest now → rest ≡ ys ++ q ∷ [] → slice_get now (length ys) ≡ Some p → OneJoins p q r → RowJoined ys (set now (length ys) r)
  next_row rest ys now p q r j e at is =
      let n = length ys in let long : length rest ≡ n + 1 = ap length e ∙ length-append ys (q ∷ []) in let few = j.few in record {
        fits = fits_set locks now n p r j.fits at is.own;
        theirs = j.theirs;
        begins = λ i x h. j.begins i x (ap (λ (z : List (TableId × View N)). slice_get z i) e ∙ at_before ys (q ∷ []) i x h);
        few = omega arith;
        later = λ i x below h. j.later i x (omega arith) (sym (set_elsewhere now n i r (λ here. omega arith)) ∙ h);
        done = λ i a b c from d f h. dite (ℕ_discrete i n)
            (λ here.
            let is_r : r ≡ c = one_value (set now n r) n r c (set_there now n r (slice_get_within now n p at)) (ap (slice_get (set now n r)) (sym here) ∙ h) in
            let is_p : p ≡ a = one_value old n p a (j.later n p (omega arith) at) (ap (slice_get old) (sym here) ∙ d) in
            let is_q : q ≡ b = one_value other n q b (j.begins n q (ap (λ (z : List (TableId × View N)). slice_get z n) e ∙ at_last ys q)) (ap (slice_get other) (sym here) ∙ f) in
            subst (λ z. OneJoins z b c) is_p (subst (λ z. OneJoins p z c) is_q (subst (λ z. OneJoins p q z) is_r is)))
            (λ more. j.done i a b c (omega arith) d f (sym (set_elsewhere now n i r more) ∙ h));
      }

  pub all_row : (rest now : List (TableId × View N)) → Fits locks old → RowJoined rest now → rest ≡ [] → AllJoin old other now
  all_row rest now f j e = record { long = j.fits.0 ∙ sym f.0; each = λ i p q r d h n. let none : length rest ≡ 0 = ap length e in j.done i p q r (omega arith) d h n }

-- one place more
pub join_both : {N : Type 0} (ps qs rs : List (TableId × View N)) (p q r : TableId × View N) → length qs ≡ length ps → AllJoin ps qs rs → OneJoins p q r → AllJoin (ps ++ p ∷ []) (qs ++ q ∷ []) (rs ++ r ∷ [])
join_both ps qs rs p q r same j o = record {
  long = length-append rs (r ∷ []) ∙ (ap (λ (n : ℕ). n + 1) j.long ∙ sym (length-append ps (p ∷ [])));
  each = λ i a b c d e f. let long = j.long in ⊎_elim
      (λ x. ⊎_elim (λ y. ⊎_elim (λ z. j.each i a b c x y z) (λ z. let low = slice_get_within ps i a x in let at : i ≡ length rs = z.0 in absurd (omega arith)) (at_end rs r c i f)) (λ y. let low = slice_get_within ps i a x in let at : i ≡ length qs = y.0 in absurd (omega arith)) (at_end qs q b i e))
      (λ x. let at : i ≡ length ps = x.0 in ⊎_elim (λ y. let low = slice_get_within qs i b y in absurd (omega arith)) (λ y. ⊎_elim (λ z. let low = slice_get_within rs i c z in absurd (omega arith))
      (λ z. subst (λ u. OneJoins u b c) x.1 (subst (λ u. OneJoins p u c) y.1 (subst (λ u. OneJoins p q u) z.1 o))) (at_end rs r c i f)) (at_end qs q b i e))
      (at_end ps p a i d);
}
