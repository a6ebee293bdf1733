use Rattle.adapter.proofs.Imports.{◌≡◌, ◌++◌, [], length, map, filter, reverse, get_or, is_on, AreOnNodes}
use Rattle.adapter.proofs.Dealing.{IsDealing}
use Rattle.adapter.proofs.trace_merge.deal.Given as goal

abbrev pub invariant-entries : goal.invariant-entries
invariant-entries l =
    (length l.nodes.items ≡ 33) × AreOnNodes l.left.items
    × IsDealing (map (λ calls. calls.items) l.nodes.items) l.left.items (λ node. get_or (map (λ calls. calls.items) l.initial.nodes.items) node [] ++ reverse (filter (is_on node) l.initial.left.items))

abbrev pub decreases-entries : goal.decreases-entries
decreases-entries l = length l.left.items
