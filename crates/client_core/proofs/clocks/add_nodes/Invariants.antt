use Rattle.client_core.proofs.Imports.{◌≡◌, replicate, uncalled}
use Rattle.client_core.proofs.clocks.add_nodes.Given as goal

abbrev pub invariant-nodes : goal.invariant-nodes
invariant-nodes l = l.nodes.items ≡ replicate l._node uncalled
