use Rattle.script_run.proofs.Passing.{writes_pass}
use Rattle.script_run.proofs.laws.writes_pass.Goals as goal

pub returns : goal.returns
returns c = writes_pass
