use Rattle.workers.proofs.Budgeting.{many_calls}
use Rattle.workers.proofs.laws.many_calls_are_too_long.Goals as goal

pub returns : goal.returns
returns c = many_calls
