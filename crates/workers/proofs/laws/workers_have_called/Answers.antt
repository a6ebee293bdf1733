use Rattle.workers.proofs.Ended.{have_called}
use Rattle.workers.proofs.laws.workers_have_called.Goals as goal

pub returns : goal.returns
returns c = have_called
