-- A number that is written in decimal digits is read again.
use Rattle.text_forms.proofs.Imports.{◌≡◌, ◌<◌, ◌≤◌, ◌^◌, refl, ℕ, zero, suc, [], ◌∷◌, true, false, length, get_or, Some, arith, nat_tests, IsNumeralModel, FoldsDigits, numerals_by_fold, tells_all_ascii_digits, digits_decimal, digits_value-decimal, decimal_nonempty, first_decimal, decimal_digit, decimal, all_ascii_digits, has_leading_zero, is_number, value_of, number_between, value_after}

folds : FoldsDigits value_after
unfolding value_after
folds = record { empty = λ n. refl; more = λ n c cs k. refl }

own : IsNumeralModel (λ ds. all_ascii_digits ds ≡ true) value_of
own = numerals_by_fold _ tells_all_ascii_digits value_after folds

no_leading_zero : (n : ℕ) → n < 2 ^ 64 → has_leading_zero (decimal n) ≡ false
no_leading_zero zero small =
    let one : decimal 0 ≡ 48 ∷ [] = decimal_digit 0 (omega arith) in
    rw one refl
no_leading_zero (suc n) small =
    let first : 48 < get_or (decimal (suc n)) 0 0 = first_decimal (suc n) (omega arith) small in
    grind (arith, nat_tests)

-- the digits are digits
pub decimal-digits : (n : ℕ) → n < 2 ^ 64 → all_ascii_digits (decimal n) ≡ true
decimal-digits n small = digits_decimal own n small

pub decimal-is_number : (n : ℕ) → n < 2 ^ 64 → is_number (decimal n) ≡ true
decimal-is_number n small =
    let digits : all_ascii_digits (decimal n) ≡ true = decimal-digits n small in
    let plain : has_leading_zero (decimal n) ≡ false = no_leading_zero n small in
    let some : 0 < length (decimal n) = decimal_nonempty n small in
    grind (arith, nat_tests)

pub value_of-decimal : (n : ℕ) → n < 2 ^ 64 → value_of (decimal n) ≡ n
value_of-decimal n small = digits_value-decimal own n small

-- a number in its range is read from its digits
pub number_between-decimal : (least most n : ℕ) → n < 2 ^ 64 → least ≤ n → n ≤ most → number_between least most (decimal n) ≡ Some n
number_between-decimal least most n small low high =
    let is : is_number (decimal n) ≡ true = decimal-is_number n small in
    let value : value_of (decimal n) ≡ n = value_of-decimal n small in
    rw (is, value) (grind (arith, nat_tests))
