use Rattle.std.proofs.Common.{◌≡◌, ℕ, [], length, map, get_or}
use Rattle.adapter.proofs.trace_merge.empty_lists.Given as goal

abbrev pub invariant-nodes : goal.invariant-nodes
invariant-nodes l = (length l.nodes.items ≡ l.counter) × ((node : ℕ) → get_or (map (λ calls. calls.items) l.nodes.items) node [] ≡ [])
