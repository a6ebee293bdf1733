use Rattle.std.proofs.Common.{refl}
use Rattle.serial_core.proofs.Going.{nodes_begun}
use Rattle.serial_core.proofs.nodes.Nodes.new.Goals as goal

pub returns-clause-at : goal.returns-clause-at
returns-clause-at c packets = nodes_begun _ packets c.new.ensures.items refl c.in_ok-fresh_seats.ensures.at
