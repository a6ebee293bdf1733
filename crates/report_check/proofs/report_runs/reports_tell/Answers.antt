use Rattle.report_check.proofs.Shown.{reports_tell}
use Rattle.report_check.proofs.report_runs.reports_tell.Goals as goal

pub returns : goal.returns
returns c = reports_tell
