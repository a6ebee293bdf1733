use Rattle.workers.proofs.Imports.{◌≡◌, ◌≤◌, ℕ, false, take, slice_index_or, DEMUX_NODES, is_named}
use Rattle.workers.proofs.script_nodes.nodes.named.Given as goal

abbrev pub invariant-lines : goal.invariant-lines
invariant-lines l = (node : ℕ) → node ≤ DEMUX_NODES → slice_index_or l.named node false ≡ is_named (take l.line-index l.line-items) node
