-- Tests and their answers.
use Rattle.std.proofs.Common.{◌≡◌, ℕ, Bool, true, false, nat_eq, refl, arith, if◌then◌else◌, ◌≤◌}
use Rattle.std.proofs.lemmas.Bool.Decides.{nat_tests}

-- a test of two numbers, the other way round
pub nat_eq_turned : (x y : ℕ) → nat_eq x y ≡ nat_eq y x
nat_eq_turned x y = grind (arith, nat_tests)

-- by the two answers of a test
pub by_bool : (b : Bool) (P : Type 0) → (b ≡ true → P) → (b ≡ false → P) → P
by_bool true P yea nay = yea refl
by_bool false P yea nay = nay refl

-- one that is counted or not is at most one
pub if_one : (b : Bool) → (if b then 0 else 1) ≤ 1
if_one true = omega arith
if_one false = omega arith
