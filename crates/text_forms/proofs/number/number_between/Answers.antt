-- A number never gets smaller as more digits are read.
use Rattle.text_forms.proofs.Imports.{◌<◌, arith, value_after, ◌≡◌, ℕ, List, [], ◌∷◌, ◌+◌, ◌*◌, ◌-◌, ◌≤◌, length, slice_index_or, None, nat_tests, value_of, number_between}
use Rattle.text_forms.proofs.number.number_between.Goals as goal

pub value_after-le : (n : ℕ) (digits : List ℕ) → n ≤ value_after n digits
unfolding value_after
value_after-le n [] = omega arith
value_after-le n (digit ∷ digits) = omega (arith, value_after-le (n * 10 + (digit - 48)) digits)

pub value_after-over : (most n : ℕ) (rest : List ℕ) → 0 < length rest → most < n * 10 + (slice_index_or rest 0 0 - 48) → most < value_after n rest
unfolding value_after
value_after-over most n [] some over = absurd (omega arith)
value_after-over most n (digit ∷ digits) some over = omega (arith, value_after-le (n * 10 + (digit - 48)) digits)

pub number_between-over : (least most : ℕ) (word : List ℕ) → most < value_of word → None ≡ number_between least most word
number_between-over least most word over = grind (arith, nat_tests)

pub returns-then-next-most-clause-value : goal.returns-then-next-most-clause-value
returns-then-next-most-clause-value c =
    let over : c.args.most < value_after c.digits.n c.digits.rest.now = value_after-over c.args.most c.digits.n c.digits.rest.now (omega arith) (omega arith) in
    number_between-over c.args.least c.args.most c.args.word.now (rw c.digits.invariant.value over)
