use Rattle.workers.proofs.Targets.{any_node}
use Rattle.workers.proofs.script_nodes.nodes.with_target.Goals as goal

pub returns-in-Slot : goal.returns-in-Slot
returns-in-Slot c node low = any_node c.args.named.now c.args.target _ node c.in-Slot.is low
