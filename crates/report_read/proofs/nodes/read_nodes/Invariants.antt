use Rattle.report_read.proofs.Imports.{◌≡◌, map, codes, told_entry, All, IsNodeInRange, onto, many, begins_with, node_in, nodes_in}
use Rattle.report_read.proofs.nodes.read_nodes.Given as goal

abbrev pub invariant-nodes : goal.invariant-nodes
invariant-nodes l = record {
  so_far : nodes_in l.fn.bytes
      ≡ onto (map (λ n. record { node = n.0; entries = map told_entry n.1.items }) l.nodes.items) (many (begins_with (codes "node ")) node_in l.left l.bytes);
  range : All IsNodeInRange (map (λ n. record { node = n.0; entries = map told_entry n.1.items }) l.nodes.items);
}

abbrev pub decreases-nodes : goal.decreases-nodes
decreases-nodes l = l.left
