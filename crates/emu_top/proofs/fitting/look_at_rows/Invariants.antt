use Rattle.emu_top.proofs.Imports.{take, All, IsRowInRange}
use Rattle.emu_top.proofs.fitting.look_at_rows.Given as goal

abbrev pub invariant-rows : goal.invariant-rows
invariant-rows l = All IsRowInRange (take l.row-index l.rows)
