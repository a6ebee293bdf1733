-- Lists whose elements are related one by one, and a change of one element of each.
use Rattle.serial_core.proofs.Imports.{ℕ, zero, suc, ◌<◌, ◌≡◌, refl, ap, List, [], ◌∷◌, ◌++◌, set, get_or, map, replicate, length, arith, Pairs}

pub map_replicate : {Y : Type 0} (count : ℕ) (f : Y → Y) (y : Y) → map f (replicate count y) ≡ replicate count (f y)
map_replicate zero f y = refl
map_replicate (suc count) f y = ap (λ ys. f y ∷ ys) (map_replicate count f y)

module _ {X Y : Type 0} (R : X → Y → Type 0) where
  pub same_length : (xs : List X) (ys : List Y) → Pairs R xs ys → length xs ≡ length ys
  same_length [] [] p = refl
  same_length [] (y ∷ ys) p = absurd p
  same_length (x ∷ xs) [] p = absurd p
  same_length (x ∷ xs) (y ∷ ys) p = ap suc (same_length xs ys p.1)

  -- one element of each is replaced
  pub set_pair : (i : ℕ) (xs : List X) (ys : List Y) (x' : X) (y' : Y) → R x' y' → Pairs R xs ys → Pairs R (set xs i x') (set ys i y')
  set_pair i [] [] x' y' r p = p
  set_pair i [] (y ∷ ys) x' y' r p = absurd p
  set_pair i (x ∷ xs) [] x' y' r p = absurd p
  set_pair zero (x ∷ xs) (y ∷ ys) x' y' r p = (r, p.1)
  set_pair (suc i) (x ∷ xs) (y ∷ ys) x' y' r p = (p.0, set_pair i xs ys x' y' r p.1)

  -- the elements in one place
  pub pair_at : (i : ℕ) (xs : List X) (ys : List Y) (d : X) (e : Y) → i < length xs → Pairs R xs ys → R (get_or xs i d) (get_or ys i e)
  pair_at i [] ys d e lt p = absurd (omega (arith, lt))
  pair_at i (x ∷ xs) [] d e lt p = absurd p
  pair_at zero (x ∷ xs) (y ∷ ys) d e lt p = p.0
  pair_at (suc i) (x ∷ xs) (y ∷ ys) d e lt p = pair_at i xs ys d e (omega (arith, lt)) p.1

  -- one more element at the end of each
  pub pair_push : (xs : List X) (ys : List Y) (x : X) (y : Y) → Pairs R xs ys → R x y → Pairs R (xs ++ x ∷ []) (ys ++ y ∷ [])
  pair_push [] [] x y p r = (r, tt)
  pair_push [] (b ∷ ys) x y p r = absurd p
  pair_push (a ∷ xs) [] x y p r = absurd p
  pair_push (a ∷ xs) (b ∷ ys) x y p r = (p.0, pair_push xs ys x y p.1 r)

  -- all against the same
  pub same_weaker : (count : ℕ) (xs : List X) (m n : Y) → ((x : X) → R x m → R x n) → Pairs R xs (replicate count m) → Pairs R xs (replicate count n)
  same_weaker zero [] m n w p = p
  same_weaker zero (x ∷ xs) m n w p = absurd p
  same_weaker (suc count) [] m n w p = absurd p
  same_weaker (suc count) (x ∷ xs) m n w p = (w x p.0, same_weaker count xs m n w p.1)

  pub same_set : (count i : ℕ) (xs : List X) (m : Y) (x' : X) → R x' m → Pairs R xs (replicate count m) → Pairs R (set xs i x') (replicate count m)
  same_set zero i [] m x' r p = p
  same_set zero i (x ∷ xs) m x' r p = absurd p
  same_set (suc count) i [] m x' r p = absurd p
  same_set (suc count) zero (x ∷ xs) m x' r p = (r, p.1)
  same_set (suc count) (suc i) (x ∷ xs) m x' r p = (p.0, same_set count i xs m x' r p.1)
