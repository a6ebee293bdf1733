use Rattle.report_read.proofs.WholeAgain.{one_thing}
use Rattle.report_read.proofs.reports_tell_one_thing.Goals as goal

pub returns : goal.returns
returns c t u is is' text = one_thing t u is is' text
