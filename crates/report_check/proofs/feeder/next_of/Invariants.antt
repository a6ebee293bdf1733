use Rattle.report_check.proofs.Imports.{◌≡◌, ◌≤◌, length, map, told_entry, steps_of}
use Rattle.report_check.proofs.feeder.next_of.Given as goal

abbrev pub invariant-entries : goal.invariant-entries
invariant-entries l = record {
  same : steps_of 0 (map told_entry l.fn.entries) ≡ steps_of 0 (map told_entry l.rest);
  long : length l.rest ≤ length l.fn.entries;
}

abbrev pub decreases-entries : goal.decreases-entries
decreases-entries l = length l.rest
