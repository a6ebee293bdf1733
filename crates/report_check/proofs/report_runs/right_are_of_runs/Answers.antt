use Rattle.report_check.proofs.Right.{right_are_of_runs}
use Rattle.report_check.proofs.report_runs.right_are_of_runs.Goals as goal

pub returns : goal.returns
returns c = right_are_of_runs
