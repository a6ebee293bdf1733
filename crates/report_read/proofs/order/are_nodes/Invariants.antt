use Rattle.report_read.proofs.Imports.{◌≡◌, length, map, told_entry, are_nodes}
use Rattle.report_read.proofs.order.are_nodes.Given as goal

abbrev pub invariant-nodes : goal.invariant-nodes
invariant-nodes l =
    are_nodes 0 (map (λ n. record { node = n.0; entries = map told_entry n.1.items }) l.fn.nodes)
    ≡ are_nodes l.least (map (λ n. record { node = n.0; entries = map told_entry n.1.items }) l.rest)

abbrev pub decreases-nodes : goal.decreases-nodes
decreases-nodes l = length l.rest
