use Rattle.client_laws.proofs.Clients.{clients_do_their_commands}
use Rattle.client_laws.proofs.clients_do_their_commands.Goals as goal

pub returns : goal.returns
returns c = clients_do_their_commands
