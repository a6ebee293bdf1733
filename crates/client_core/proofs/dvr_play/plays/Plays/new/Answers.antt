use Rattle.std.proofs.Common.{rules}
use Rattle.client_core.proofs.Joining.{played_none}
use Rattle.client_core.proofs.dvr_play.plays.Plays.new.Goals as goal

pub returns-clause-played : goal.returns-clause-played
returns-clause-played c = played_none _ (search rules)
