use Rattle.report_read.proofs.Imports.{◌≡◌, codes, All, IsRowInRange, onto, many, begins_with, row_in, rows_in}
use Rattle.report_read.proofs.stream.read_rows.Given as goal

abbrev pub invariant-rows : goal.invariant-rows
invariant-rows l = record {
  so_far : rows_in l.fn.bytes ≡ onto l.rows.items (many (begins_with (codes "pid ")) row_in l.left l.bytes);
  range : All IsRowInRange l.rows.items;
}

abbrev pub decreases-rows : goal.decreases-rows
decreases-rows l = l.left
