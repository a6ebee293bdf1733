use Rattle.adapter.proofs.Imports.{◌≡◌, ◌<◌, ℕ, [], length, map, get_or, IsPermutation, IsNonDecreasingBy}
use Rattle.adapter.proofs.trace_merge.sort_all.Given as goal

abbrev pub invariant-nodes : goal.invariant-nodes
invariant-nodes l =
    (length l.nodes.items ≡ length l.initial.nodes.items)
    × ((node : ℕ) → node < length l.nodes.items → IsPermutation (get_or (map (λ calls. calls.items) l.initial.nodes.items) node []) (get_or (map (λ calls. calls.items) l.nodes.items) node []))
    × ((node : ℕ) → node < l.node → IsNonDecreasingBy (λ e. e.place) (get_or (map (λ calls. calls.items) l.nodes.items) node []))
