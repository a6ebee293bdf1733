use Rattle.adapter.proofs.Imports.{◌≡◌, ◌<◌, ◌++◌, ℕ, [], length, map, filter, reverse, get_or, All, is_on, all_of, AreOnNodes}
use Rattle.adapter.proofs.trace_merge.deal_all.Given as goal

abbrev pub invariant-logs : goal.invariant-logs
invariant-logs l =
    (length l.nodes.items ≡ 33) × All (λ log. AreOnNodes log.items) l.left.items
    × ((node : ℕ) → node < 33 → get_or (map (λ calls. calls.items) l.nodes.items) node [] ++ reverse (filter (is_on node) (all_of (map (λ log. log.items) l.left.items)))
    ≡ reverse (filter (is_on node) (all_of (map (λ log. log.items) l.initial.left.items))))

abbrev pub decreases-logs : goal.decreases-logs
decreases-logs l = length l.left.items
