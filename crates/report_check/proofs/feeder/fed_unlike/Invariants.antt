use Rattle.report_check.proofs.Imports.{length, map, told_entry, IsFedAlike}
use Rattle.report_check.proofs.feeder.fed_unlike.Given as goal

abbrev pub invariant-calls : goal.invariant-calls
invariant-calls l = record {
  on : IsFedAlike (map told_entry l.fn.others) (map told_entry l.fn.entries) → IsFedAlike (map told_entry l.left) (map told_entry l.rest);
  back : IsFedAlike (map told_entry l.left) (map told_entry l.rest) → IsFedAlike (map told_entry l.fn.others) (map told_entry l.fn.entries);
}

abbrev pub decreases-calls : goal.decreases-calls
decreases-calls l = length l.left
