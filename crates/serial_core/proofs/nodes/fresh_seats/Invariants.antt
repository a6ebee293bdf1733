use Rattle.serial_core.proofs.Imports.{map, [], range_with_len, uncalled, Pairs, IsSeat, IsUnder}
use Rattle.serial_core.proofs.nodes.fresh_seats.Given as goal

abbrev pub invariant-nodes : goal.invariant-nodes
invariant-nodes l = Pairs (IsSeat []) l.seats.items (map uncalled (range_with_len 0 l.node)) × Pairs IsUnder l.seats.items (map (λ n. 0) (range_with_len 0 l.node))
