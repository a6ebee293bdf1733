use Rattle.client_laws.proofs.Ended.{calls_end_commands}
use Rattle.client_laws.proofs.calls_end_commands.Goals as goal

pub returns : goal.returns
returns c = calls_end_commands
