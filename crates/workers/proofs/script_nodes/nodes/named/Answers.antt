use Rattle.workers.proofs.Targets.{first_line}
use Rattle.workers.proofs.script_nodes.nodes.named.Goals as goal

pub lines-init : goal.lines-init
lines-init c node low = first_line node low
