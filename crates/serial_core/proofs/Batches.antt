-- The feeder's turns, one after another, make up what a line asks for.
use Rattle.serial_core.proofs.Imports.{◌≡◌, refl, sym, ap, ◌∙◌, ℕ, suc, ◌+◌, ◌-◌, ◌/◌, ◌%◌, ◌<◌, ◌≤◌, ◌==◌, min, Bool, true, false, ◌∷◌, length, nat_lt, nat_eq, length-drop, arith, inl, inr, cases_lt, nat_tests, div-eq_of_lt, mod-eq_of_lt, add-div_right, add-mod_right, Run, passed, batch_sizes, all_passed, ended, fed, turned, finished}
use Rattle.std.proofs.Common.{if◌then◌else◌}
use Rattle.std.proofs.Math.Numerals.{add-one}

-- ------ batches

-- fewer than a batch are one batch
below : (batch n : ℕ) → 0 < batch → 0 < n → n < batch → batch_sizes batch n ≡ min n batch ∷ batch_sizes batch (n - min n batch)
below batch n some more less =
    let least : min n batch ≡ n = omega arith in
    let none : n - n ≡ 0 = omega arith in
    let over : (n == 0) ≡ false = grind (arith, nat_tests) in
    rw (least, none, div-eq_of_lt less, mod-eq_of_lt less, over, div-eq_of_lt some, mod-eq_of_lt some) refl

-- more are a batch and the rest
above : (batch n : ℕ) → 0 < batch → batch ≤ n → batch_sizes batch n ≡ min n batch ∷ batch_sizes batch (n - min n batch)
above batch n some enough =
    let least : min n batch ≡ batch = omega arith in
    let sum : n ≡ (n - batch) + batch = omega arith in
    let whole : n / batch ≡ suc ((n - batch) / batch) = ap (λ m. m / batch) sum ∙ (add-div_right (n - batch) some ∙ add-one ((n - batch) / batch)) in
    let over : n % batch ≡ (n - batch) % batch = ap (λ m. m % batch) sum ∙ add-mod_right (n - batch) batch in
    rw (least, whole, over) refl

-- the first batch, and the batches of the rest
sizes_more : (batch n : ℕ) → 0 < batch → 0 < n → batch_sizes batch n ≡ min n batch ∷ batch_sizes batch (n - min n batch)
sizes_more batch n some more = elim (cases_lt n batch) [ inl less ↦ below batch n some more less | inr enough ↦ above batch n some enough ]

passed_more : (batch n : ℕ) (r : Run) → 0 < batch → 0 < n → all_passed batch n r ≡ all_passed batch (n - min n batch) (passed r (min n batch))
passed_more batch n r some more = rw (sizes_more batch n some more) refl

passed_none : (batch : ℕ) (r : Run) → 0 < batch → all_passed batch 0 r ≡ r
passed_none batch r some = rw (div-eq_of_lt some, mod-eq_of_lt some) refl

if_true : {A : Type 0} (b : Bool) (x y : A) → b ≡ true → (if b then x else y) ≡ x
if_true b x y is = rw is refl

if_false : {A : Type 0} (b : Bool) (x y : A) → b ≡ false → (if b then x else y) ≡ y
if_false b x y is = rw is refl

-- ------ one turn

pub turned_none : (most : ℕ) (r : Run) → length r.left ≡ 0 → turned most r ≡ ended r
turned_none most r none = if_true (nat_eq (length r.left) 0) (ended r) (passed r (min most (length r.left))) (grind (arith, nat_tests))

pub turned_some : (most : ℕ) (r : Run) → 0 < length r.left → turned most r ≡ passed r (min most (length r.left))
turned_some most r some = if_false (nat_eq (length r.left) 0) (ended r) (passed r (min most (length r.left))) (grind (arith, nat_tests))

-- ------ a feed

-- where fewer are left than are asked for
fed_short : (batch count : ℕ) (r : Run) → length r.left < count → fed batch count r ≡ ended (all_passed batch (length r.left) r)
fed_short batch count r few = if_true (nat_lt (length r.left) count) (ended (all_passed batch (length r.left) r)) (all_passed batch count r) (grind (arith, nat_tests))

fed_long : (batch count : ℕ) (r : Run) → count ≤ length r.left → fed batch count r ≡ all_passed batch count r
fed_long batch count r enough = if_false (nat_lt (length r.left) count) (ended (all_passed batch (length r.left) r)) (all_passed batch count r) (grind (arith, nat_tests))

pub fed_none : (batch : ℕ) (r : Run) → 0 < batch → fed batch 0 r ≡ r
fed_none batch r some = fed_long batch 0 r (omega arith) ∙ passed_none batch r some

pub fed_end : (batch most count : ℕ) (r : Run) → 0 < batch → 0 < count → length r.left ≡ 0 → fed batch count r ≡ turned most r
fed_end batch most count r some more none =
    fed_short batch count r (omega arith) ∙ (ap (λ n. ended (all_passed batch n r)) none ∙ (ap ended (passed_none batch r some) ∙ sym (turned_none most r none)))

passed_left : (n m : ℕ) (r : Run) → length r.left ≡ n + m → length (passed r n).left ≡ m
passed_left n m r whole = length-drop n r.left ∙ omega arith

pub fed_step : (batch count n : ℕ) (r : Run) → 0 < batch → 0 < count → n ≡ min (min count batch) (length r.left) → 0 < n → fed batch count r ≡ fed batch (count - n) (turned (min count batch) r)
fed_step batch count n r some more is here = elim (cases_lt (length r.left) count) [
  | inl few ↦
      let first : min (length r.left) batch ≡ n = omega arith in
      let rest : length (passed r n).left ≡ length r.left - n = passed_left n (length r.left - n) r (omega arith) in
      fed_short batch count r few
      ∙ (ap ended (passed_more batch (length r.left) r some (omega arith))
      ∙ (ap (λ k. ended (all_passed batch (length r.left - k) (passed r k))) first
      ∙ (ap (λ k. ended (all_passed batch k (passed r n))) (sym rest)
      ∙ (sym (fed_short batch (count - n) (passed r n) (omega arith))
      ∙ ap (fed batch (count - n)) (ap (passed r) is ∙ sym (turned_some (min count batch) r (omega arith)))))))
  | inr enough ↦
      let first : min count batch ≡ n = omega arith in
      let rest : length (passed r n).left ≡ length r.left - n = passed_left n (length r.left - n) r (omega arith) in
      fed_long batch count r enough
      ∙ (passed_more batch count r some more
      ∙ (ap (λ k. all_passed batch (count - k) (passed r k)) first
      ∙ (sym (fed_long batch (count - n) (passed r n) (omega arith))
      ∙ ap (fed batch (count - n)) (ap (passed r) is ∙ sym (turned_some (min count batch) r (omega arith))))))
]

-- ------ the end of the run

pub finished_end : (batch : ℕ) (r : Run) → 0 < batch → length r.left ≡ 0 → finished batch r ≡ turned batch r
finished_end batch r some none = ap (λ n. ended (all_passed batch n r)) none ∙ (ap ended (passed_none batch r some) ∙ sym (turned_none batch r none))

pub finished_step : (batch n : ℕ) (r : Run) → 0 < batch → n ≡ min batch (length r.left) → 0 < n → finished batch r ≡ finished batch (turned batch r)
finished_step batch n r some is here =
    let first : min (length r.left) batch ≡ n = omega arith in
    let rest : length (passed r n).left ≡ length r.left - n = passed_left n (length r.left - n) r (omega arith) in
    ap ended (passed_more batch (length r.left) r some (omega arith))
    ∙ (ap (λ k. ended (all_passed batch (length r.left - k) (passed r k))) first
    ∙ (ap (λ k. ended (all_passed batch k (passed r n))) (sym rest)
    ∙ ap (finished batch) (ap (passed r) is ∙ sym (turned_some batch r (omega arith)))))
