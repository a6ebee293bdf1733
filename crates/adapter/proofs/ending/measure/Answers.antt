use Rattle.adapter.proofs.Imports.{map, rules, ◌++◌, ◌∷◌, [], ◌≤◌, nodes}
use Rattle.adapter.proofs.Looking.{next_looked}
use Rattle.adapter.proofs.ending.measure.Goals as goal

pub nodes-preserved : goal.nodes-preserved
nodes-preserved c = let below : c.nodes.node ≤ nodes = search rules in
    next_looked c.args.adapter.now (map (λ x. x.passes) c.args.others.items ++ c.args.into ∷ []) c.nodes.node c.len.result c.nodes.lengths c.nodes.all c.len.new.self below c.nodes.invariant c.len.ensures
