use Rattle.std.proofs.Common.{map, ◌++◌, ◌∷◌, []}
use Rattle.adapter.proofs.Looking.{Looked}
use Rattle.adapter.proofs.ending.measure.Given as goal

abbrev pub invariant-nodes : goal.invariant-nodes
invariant-nodes l = Looked l.adapter (map (λ c. c.passes) l.fn.others.items ++ l.fn.into ∷ []) l.node l.lengths l.all
