use Rattle.report_read.proofs.Imports.{◌≡◌, codes, All, IsOutcomeInRange, onto, many, begins_with, outcome_in, outcomes_in}
use Rattle.report_read.proofs.clients.read_outcomes.Given as goal

abbrev pub invariant-outcomes : goal.invariant-outcomes
invariant-outcomes l = record {
  so_far : outcomes_in l.fn.bytes ≡ onto l.outcomes.items (many (begins_with (codes "line ")) outcome_in l.left l.bytes);
  range : All IsOutcomeInRange l.outcomes.items;
}

abbrev pub decreases-outcomes : goal.decreases-outcomes
decreases-outcomes l = l.left
