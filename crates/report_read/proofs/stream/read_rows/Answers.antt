use Rattle.report_read.proofs.Imports.{◌≡◌, ◌∙◌, rules, arith, true, Some, codes, All-push, begins_with, row_in, IsRowInRange}
use Rattle.report_read.proofs.Many.{many_on}
use Rattle.report_read.proofs.stream.read_rows.Goals as goal

pub rows-preserved : goal.rows-preserved
rows-preserved c =
    let read : row_in c.rows.bytes ≡ Some (c.in-Some.row, c.read_row.new.bytes) = rw c.in-Some.is at c.read_row.ensures.value in
    let fits : IsRowInRange c.in-Some.row = rw c.in-Some.is at c.read_row.ensures.range in
    let begun : begins_with (codes "pid ") c.rows.bytes ≡ true = search rules in
    let on = many_on (begins_with (codes "pid ")) row_in c.rows.left c.rows.bytes c.read_row.new.bytes c.rows.rows.items c.in-Some.row (omega arith) begun read in
    record {
      so_far = rw c.in_ok-push.ensures.items (c.rows.invariant.so_far ∙ on);
      range = rw c.in_ok-push.ensures.items (All-push IsRowInRange c.rows.rows.items c.in-Some.row c.rows.invariant.range fits);
    }
