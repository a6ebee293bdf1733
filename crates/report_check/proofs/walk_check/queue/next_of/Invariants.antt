use Rattle.report_check.proofs.Imports.{◌≡◌, ◌≤◌, length, map, told_entry, of_client}
use Rattle.report_check.proofs.walk_check.queue.next_of.Given as goal

abbrev pub invariant-entries : goal.invariant-entries
invariant-entries l = record {
  same : of_client l.client (map told_entry l.entries) ≡ of_client l.client (map told_entry l.left);
  long : length l.left ≤ length l.entries;
}

abbrev pub decreases-entries : goal.decreases-entries
decreases-entries l = length l.left
