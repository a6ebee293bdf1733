use Rattle.emu_top.proofs.Imports.{sym, subst, IsSums}
use Rattle.emu_top.proofs.Answering.{told_as}
use Rattle.emu_top.proofs.top.self_test.Goals as goal

pub returns-in-Ok-clause-tells : goal.returns-in-Ok-clause-tells
returns-in-Ok-clause-tells g c source =
    told_as (IsSums c.args.number c.args.batch) c.deref.result.now _ _ c.write_text.result
    (subst (IsSums c.args.number c.args.batch) (sym c.deref.ensures.value) c.in-Ok.ensures.sums) (c.write_text.ensures.tells source)
