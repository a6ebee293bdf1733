use Rattle.client_laws.proofs.CanEnd.{commands_can_end}
use Rattle.client_laws.proofs.commands_can_end.Goals as goal

pub returns : goal.returns
returns c = commands_can_end
