use Rattle.emu_top.proofs.Imports.{arith, All-more, IsRowInRange}
use Rattle.emu_top.proofs.Ranged.{all_in}
use Rattle.emu_top.proofs.fitting.look_at_rows.Goals as goal

pub rows-preserved : goal.rows-preserved
rows-preserved c = All-more IsRowInRange c.args.rows.now c.rows.row-index _ c.rows-test.true c.rows.invariant c.look_at_row.ensures

pub returns : goal.returns
returns c = all_in IsRowInRange c.args.rows.now c.rows.row-index (omega (arith, c.rows-test.false)) c.rows.invariant
