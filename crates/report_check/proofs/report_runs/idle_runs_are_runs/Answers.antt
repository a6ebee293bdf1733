use Rattle.report_check.proofs.Empty.{idle_runs}
use Rattle.report_check.proofs.report_runs.idle_runs_are_runs.Goals as goal

pub returns : goal.returns
returns c = idle_runs
