use Rattle.workers.proofs.Budgeting.{calls_within}
use Rattle.workers.proofs.laws.calls_are_within_budget.Goals as goal

pub returns : goal.returns
returns c = calls_within
