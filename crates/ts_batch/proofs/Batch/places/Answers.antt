use Rattle.ts_batch.proofs.Imports.{◌≡◌, ◌∙◌, sym, ap, false, take_all, has_run}
use Rattle.ts_batch.proofs.Places.{none-named}
use Rattle.ts_batch.proofs.Batch.places.Goals as goal

pub returns-clause-value : goal.returns-clause-value
returns-clause-value c =
    let whole = take_all c.runs.run-index c.deref-run-items.result.now c.runs-test.false ∙ c.deref-run-items.ensures.value in
    let none : has_run c.args.pid c.self.inside.index.runs.items ≡ false = sym (ap (has_run c.args.pid) whole) ∙ c.runs.invariant in
    rw (← c.self.view_is) (sym (none-named c.args.pid c.self.inside.packets.items c.self.inside.index c.self.invariant.index none))
