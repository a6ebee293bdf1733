use Rattle.workers.proofs.NamedNodes.{named_next}
use Rattle.workers.proofs.script_nodes.laws.calls_are_on_named_nodes.Goals as goal

pub returns : goal.returns
returns c = named_next
