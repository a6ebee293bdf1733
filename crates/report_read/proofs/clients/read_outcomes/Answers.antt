use Rattle.report_read.proofs.Imports.{◌≡◌, ◌∙◌, rules, arith, true, Some, codes, All-push, begins_with, outcome_in, IsOutcomeInRange}
use Rattle.report_read.proofs.Many.{many_on}
use Rattle.report_read.proofs.clients.read_outcomes.Goals as goal

pub outcomes-preserved : goal.outcomes-preserved
outcomes-preserved c =
    let read : outcome_in c.outcomes.bytes ≡ Some (c.in-Some.outcome, c.read_outcome.new.bytes) = rw c.in-Some.is at c.read_outcome.ensures.value in
    let fits : IsOutcomeInRange c.in-Some.outcome = rw c.in-Some.is at c.read_outcome.ensures.range in
    let begun : begins_with (codes "line ") c.outcomes.bytes ≡ true = search rules in
    let on = many_on (begins_with (codes "line ")) outcome_in c.outcomes.left c.outcomes.bytes c.read_outcome.new.bytes c.outcomes.outcomes.items c.in-Some.outcome (omega arith) begun read in
    record {
      so_far = rw c.in_ok-push.ensures.items (c.outcomes.invariant.so_far ∙ on);
      range = rw c.in_ok-push.ensures.items (All-push IsOutcomeInRange c.outcomes.outcomes.items c.in-Some.outcome c.outcomes.invariant.range fits);
    }
