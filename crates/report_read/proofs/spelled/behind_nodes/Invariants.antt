use Rattle.report_read.proofs.Imports.{◌≡◌, map, take, flat_map, told_entry, told_node_text, gone}
use Rattle.report_read.proofs.spelled.behind_nodes.Given as goal

abbrev pub invariant-nodes : goal.invariant-nodes
invariant-nodes l = l.left ≡ gone ((flat_map told_node_text (map (λ n. record { node = n.0; entries = map told_entry n.1.items }) (take l.number-index l.nodes)))) l.initial.left
