use Rattle.script_run.proofs.Paying.{calls_are_paid}
use Rattle.script_run.proofs.laws.calls_are_paid.Goals as goal

pub returns : goal.returns
returns c = calls_are_paid
