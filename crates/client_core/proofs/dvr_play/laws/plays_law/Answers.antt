use Rattle.client_core.proofs.Joining.{are_joined, are_counted, are_completed, are_few, are_placed}
use Rattle.client_core.proofs.dvr_play.laws.plays_law.Goals as goal

pub returns-clause-joined : goal.returns-clause-joined
returns-clause-joined c = are_joined

pub returns-clause-counted : goal.returns-clause-counted
returns-clause-counted c = are_counted

pub returns-clause-completed : goal.returns-clause-completed
returns-clause-completed c = are_completed

pub returns-clause-few : goal.returns-clause-few
returns-clause-few c = are_few

pub returns-clause-placed : goal.returns-clause-placed
returns-clause-placed c = are_placed
