use Rattle.client_laws.proofs.Made.{commands_make_calls}
use Rattle.client_laws.proofs.commands_make_calls.Goals as goal

pub returns : goal.returns
returns c = commands_make_calls
