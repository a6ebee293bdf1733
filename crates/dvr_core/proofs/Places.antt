-- A change at one place of a list.
use Rattle.dvr_core.proofs.Imports.{ℕ, zero, suc, ◌<◌, ◌≤◌, ◌≡◌, refl, ap, List, [], ◌∷◌, set, get_or, replicate, length, arith, changed_at}

module _ {X : Type 0} (change : X → X) where
  -- a place behind the end
  pub changed_past : (xs : List X) (place : ℕ) → length xs ≤ place → xs ≡ changed_at place change xs
  changed_past [] place le = refl
  changed_past (x ∷ xs) zero le = absurd (omega (arith, le))
  changed_past (x ∷ xs) (suc place) le = ap (λ ys. x ∷ ys) (changed_past xs place (omega (arith, le)))

  -- a place of the list
  pub changed_in : (xs : List X) (place : ℕ) (d y : X) → place < length xs → change (get_or xs place d) ≡ y → set xs place y ≡ changed_at place change xs
  changed_in [] place d y lt is = absurd (omega (arith, lt))
  changed_in (x ∷ xs) zero d y lt is = rw is refl
  changed_in (x ∷ xs) (suc place) d y lt is = ap (λ ys. x ∷ ys) (changed_in xs place d y (omega (arith, lt)) is)

  -- where the change leaves its element as it is
  pub changed_not : (xs : List X) (place : ℕ) (d : X) → place < length xs → change (get_or xs place d) ≡ get_or xs place d → xs ≡ changed_at place change xs
  changed_not [] place d lt is = absurd (omega (arith, lt))
  changed_not (x ∷ xs) zero d lt is = rw is refl
  changed_not (x ∷ xs) (suc place) d lt is = ap (λ ys. x ∷ ys) (changed_not xs place d (omega (arith, lt)) is)

-- a list with this element in each place
pub same_at_each : {X : Type 0} (x : X) (xs : List X) (n : ℕ) → length xs ≡ n → ((i : ℕ) (d : X) → i < n → get_or xs i d ≡ x) → xs ≡ replicate n x
same_at_each x [] zero long at = refl
same_at_each x [] (suc n) long at = absurd (omega (arith, long))
same_at_each x (y ∷ xs) zero long at = absurd (omega (arith, long))
same_at_each x (y ∷ xs) (suc n) long at = rw (at 0 x (omega arith), same_at_each x xs n (omega (arith, long)) (λ i d lt. at (suc i) d (omega (arith, lt)))) refl
