use Rattle.client_core.proofs.More.{one_reply_more}
use Rattle.client_core.proofs.laws.one_reply_repeats_once.Goals as goal

pub returns : goal.returns
returns c = one_reply_more
