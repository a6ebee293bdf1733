use Rattle.report_text.proofs.Imports.{◌≡◌, ◌++◌, take, flat_map, row_text}
use Rattle.report_text.proofs.whole.add_rows.Given as goal

abbrev pub invariant-rows : goal.invariant-rows
invariant-rows l = l.out.items ≡ l.initial.out.items ++ flat_map row_text (take l.row-index l.rows)
