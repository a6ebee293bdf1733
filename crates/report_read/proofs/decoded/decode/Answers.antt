use Rattle.report_read.proofs.Imports.{◌<◌, sym, ◌∙◌, ℕ, arith, subst, ⊎_elim, get_or-set_at, get_or-set_other, length-set}
use Rattle.std.proofs.lemmas.Bool.{cases_lt}
use Rattle.report_read.proofs.decoded.decode.Goals as goal

pub bytes-preserved : goal.bytes-preserved
bytes-preserved c =
    let i = c.bytes.invariant in let low = c.bytes-test.true in let long = i.long in
    record {
      long = length-set c.bytes.room c.bytes.i _ ∙ i.long;
      range = λ k d few. ⊎_elim
          (λ (before : k < c.bytes.i). subst (λ (n : ℕ). n < 256) (sym (get_or-set_other c.bytes.room c.bytes.i k _ d (λ e. absurd (omega (arith, before, e))))) (i.range k d before))
          (λ here. subst (λ (n : ℕ). n < 256) (sym (get_or-set_at c.bytes.room c.bytes.i k _ d (omega (arith, few, here)) (omega (arith, low, long)))) (omega arith))
          (cases_lt k c.bytes.i);
    }

pub returns : goal.returns
returns c k d few = let i = c.bytes.invariant in let done = c.bytes-test.false in let long = i.long in i.range k d (omega (arith, few, done, long))
