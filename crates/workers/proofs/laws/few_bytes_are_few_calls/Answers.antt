use Rattle.workers.proofs.Budgeting.{few_calls}
use Rattle.workers.proofs.laws.few_bytes_are_few_calls.Goals as goal

pub returns : goal.returns
returns c = few_calls
