use Rattle.report_check.proofs.Imports.{◌≡◌, ◌≤◌, ◌+◌, length, map, told_entry, steps_of, feeds}
use Rattle.report_check.proofs.feeder.unfed.Given as goal

abbrev pub invariant-calls : goal.invariant-calls
invariant-calls l = record {
  on : feeds l.fn.packets 0 0 (steps_of 0 (map told_entry l.fn.entries)) ≡ feeds l.fn.packets l.first l.step (steps_of 0 (map told_entry l.rest));
  within : l.first ≤ l.fn.packets;
  left : l.step + length l.rest ≤ length l.fn.entries;
}

abbrev pub decreases-calls : goal.decreases-calls
decreases-calls l = length l.rest
