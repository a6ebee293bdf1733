use Rattle.report_read.proofs.Imports.{◌≡◌, ◌+◌, length, map, told_entry, are_placed}
use Rattle.report_read.proofs.order.are_placed.Given as goal

abbrev pub invariant-entries : goal.invariant-entries
invariant-entries l = record {
  so_far : are_placed 0 (map told_entry l.fn.entries) ≡ are_placed l.place (map told_entry l.rest);
  left : length l.fn.entries ≡ l.place + length l.rest;
}

abbrev pub decreases-entries : goal.decreases-entries
decreases-entries l = length l.rest
