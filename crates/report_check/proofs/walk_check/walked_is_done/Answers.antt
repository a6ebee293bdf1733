use Rattle.report_check.proofs.Doing.{walked_is_done}
use Rattle.report_check.proofs.walk_check.walked_is_done.Goals as goal

pub returns : goal.returns
returns c client script hs places made rest = walked_is_done client script hs places made rest
