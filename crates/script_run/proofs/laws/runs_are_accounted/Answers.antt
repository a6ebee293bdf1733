use Rattle.script_run.proofs.Ending.{are_accounted}
use Rattle.script_run.proofs.laws.runs_are_accounted.Goals as goal

pub returns : goal.returns
returns c = are_accounted
