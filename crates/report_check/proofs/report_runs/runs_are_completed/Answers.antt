use Rattle.report_check.proofs.Idle.{runs_are_completed}
use Rattle.report_check.proofs.report_runs.runs_are_completed.Goals as goal

pub returns : goal.returns
returns c = runs_are_completed
