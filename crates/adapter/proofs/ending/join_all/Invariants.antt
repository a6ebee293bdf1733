use Rattle.std.proofs.Common.{map, vec_len, ◌++◌, ◌∷◌, []}
use Rattle.adapter.proofs.Gathers.{Gathering}
use Rattle.adapter.proofs.ending.join_all.Given as goal

abbrev pub invariant-loop-client : goal.invariant-loop-client
invariant-loop-client l = Gathering l.adapter (map (λ c. c.passes) l.fn.others.items ++ l.fn.into ∷ []) (map (λ c. c.passes) l.others.items) l.into

abbrev pub decreases-loop-client : goal.decreases-loop-client
decreases-loop-client l = vec_len l.others
