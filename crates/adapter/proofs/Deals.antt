-- Passes go to rows, the last first.
use Rattle.adapter.proofs.Imports.{◌≡◌, ℕ, ◌+◌, ◌<◌, ◌≤◌, List, [], ◌∷◌, ◌++◌, length, slice_get, set, Some, ap, sym, ◌∙◌, subst, arith, length-append, length-set, dite, ℕ_discrete, ⊎_elim, slice_get_within, TableId, View, IsFresh, AreFresh, IsFreshRow, AreFreshRows, AllDealt}
use Rattle.adapter.proofs.Lists.{at_place, set_there, set_elsewhere, at_last, at_before, one_value, at_end}

module _ {P V : Type 0} (items : V → List P) (old : List V) (passes : List P) where
  pub record Dealing (rest : List P) (now : List V) : Type 0 where
    pub long : length now ≡ length old
    pub all : length old ≡ length passes
    pub few : length rest ≤ length passes
    pub begins : (i : ℕ) (p : P) → slice_get rest i ≡ Some p → slice_get passes i ≡ Some p
    pub later : (i : ℕ) (r : V) → i < length rest → slice_get now i ≡ Some r → slice_get old i ≡ Some r
    pub done : (i : ℕ) (r s : V) (p : P) → length rest ≤ i → slice_get old i ≡ Some r → slice_get passes i ≡ Some p → slice_get now i ≡ Some s → items s ≡ items r ++ p ∷ []

  pub next_deal : (rest ys : List P) (now : List V) (p : P) (r s : V) → Dealing rest now → rest ≡ ys ++ p ∷ [] → slice_get now (length ys) ≡ Some r → items s ≡ items r ++ p ∷ [] → Dealing ys (set now (length ys) s)
  next_deal rest ys now p r s j e at is =
      let n = length ys in let long : length rest ≡ n + 1 = ap length e ∙ length-append ys (p ∷ []) in let few = j.few in record {
        long = length-set now n s ∙ j.long;
        all = j.all;
        few = omega arith;
        begins = λ i x h. j.begins i x (ap (λ (z : List P). slice_get z i) e ∙ at_before ys (p ∷ []) i x h);
        later = λ i x below h. j.later i x (omega arith) (sym (set_elsewhere now n i s (λ here. omega arith)) ∙ h);
        done = λ i a b q from d f h. dite (ℕ_discrete i n)
            (λ here.
            let is_s : s ≡ b = one_value (set now n s) n s b (set_there now n s (slice_get_within now n r at)) (ap (slice_get (set now n s)) (sym here) ∙ h) in
            let is_r : r ≡ a = one_value old n r a (j.later n r (omega arith) at) (ap (slice_get old) (sym here) ∙ d) in
            let is_p : p ≡ q = one_value passes n p q (j.begins n p (ap (λ (z : List P). slice_get z n) e ∙ at_last ys p)) (ap (slice_get passes) (sym here) ∙ f) in
            subst (λ z. items z ≡ items a ++ q ∷ []) is_s (subst (λ z. items s ≡ items z ++ q ∷ []) is_r (subst (λ z. items s ≡ items r ++ z ∷ []) is_p is)))
            (λ more. j.done i a b q (omega arith) d f (sym (set_elsewhere now n i s more) ∙ h));
      }

module _ {N : Type 0} where
  pub fresh_row : (callers who : ℕ) (ls : List TableId) (ps : List (TableId × View N)) (l : TableId) (p : TableId × View N) → IsFreshRow callers who ls ps → IsFresh l callers who p → IsFreshRow callers who (ls ++ l ∷ []) (ps ++ p ∷ [])
  fresh_row callers who ls ps l p f is = (
    length-append ps (p ∷ []) ∙ (ap (λ (n : ℕ). n + 1) f.0 ∙ sym (length-append ls (l ∷ []))),
    λ i m q a b. let long = f.0 in ⊎_elim
        (λ x. ⊎_elim (λ y. f.1 i m q x y) (λ y. let low = slice_get_within ls i m x in let at : i ≡ length ps = y.0 in absurd (omega arith)) (at_end ps p q i b))
        (λ x. ⊎_elim (λ y. let low = slice_get_within ps i q y in let at : i ≡ length ls = x.0 in absurd (omega arith)) (λ y. subst (λ z. IsFresh m callers who z) y.1 (subst (λ z. IsFresh z callers who p) x.1 is)) (at_end ps p q i b))
        (at_end ls l m i a),
  )

  pub fresh_rows : {V : Type 0} (items : V → List (TableId × View N)) (callers : ℕ) (ls : List TableId) (l : TableId) (old new : List V) (passes : List (TableId × View N))
      → AreFreshRows items callers ls old → AreFresh l callers passes → length passes ≡ callers → AllDealt items old passes new → AreFreshRows items callers (ls ++ l ∷ []) new
  fresh_rows items callers ls l old new passes f fresh long d = (
    d.0 ∙ f.0,
    λ who s at. let low = slice_get_within new who s at in let a = d.0 in let b = f.0 in
        let r = at_place old who (omega arith) in let p = at_place passes who (omega arith) in
        subst (IsFreshRow callers who (ls ++ l ∷ [])) (sym (d.1 who r.0 s p.0 r.1 p.1 at)) (fresh_row callers who ls (items r.0) l p.0 (f.1 who r.0 r.1) (fresh who p.0 p.1)),
  )

  pub no_rows : {V : Type 0} (items : V → List (TableId × View N)) (callers : ℕ) (rows : List V) → length rows ≡ callers → ((who : ℕ) (r : V) → slice_get rows who ≡ Some r → items r ≡ []) → AreFreshRows items callers [] rows
  no_rows items callers rows long e = (long, λ who r at. (ap length (e who r at), λ i l p a b. absurd (cc a)))
