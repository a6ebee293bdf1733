use Rattle.report_read.proofs.Imports.{◌≡◌, ◌≤◌, length, are_rows}
use Rattle.report_read.proofs.order.are_rows.Given as goal

abbrev pub invariant-rows : goal.invariant-rows
invariant-rows l = record {
  so_far : are_rows 0 l.fn.rows ≡ are_rows l.least l.rest;
  bound : l.least ≤ 8192;
}

abbrev pub decreases-rows : goal.decreases-rows
decreases-rows l = length l.rest
