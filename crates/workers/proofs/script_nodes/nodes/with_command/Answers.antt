use Rattle.workers.proofs.Targets.{any_write}
use Rattle.workers.proofs.script_nodes.nodes.with_command.Goals as goal

pub returns-in-Write : goal.returns-in-Write
returns-in-Write c node low = any_write c.args.named.now c.args.target c.args.verb _ node c.in-Write.is low
