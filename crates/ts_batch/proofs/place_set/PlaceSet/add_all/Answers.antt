use Rattle.ts_batch.proofs.Imports.{◌∙◌, ◌||◌, ap, arith, list_any, take_all, names, is_in}
use Rattle.ts_batch.proofs.Named.{named-by}
use Rattle.ts_batch.proofs.place_set.PlaceSet.add_all.Goals as goal

pub returns : goal.returns
returns c = λ i packet at.
    let pids = c.args.pids.now in
    c.pids.invariant i packet at
    ∙ ap (λ p. is_in i c.args.self.now || list_any (λ pid. names pid packet) p) (take_all c.pids.i pids (omega (arith, c.len-i-end.ensures.value, c.pids-test.false)))
    ∙ ap (λ b. is_in i c.args.self.now || b) (named-by packet pids)
