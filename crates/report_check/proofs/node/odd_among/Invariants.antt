use Rattle.report_check.proofs.Imports.{length, map, told_entry, told_nodes, IsSoundNode}
use Rattle.std.proofs.Common.{All}
use Rattle.report_check.proofs.node.odd_among.Given as goal

abbrev pub invariant-nodes : goal.invariant-nodes
invariant-nodes l = record {
  on : All (IsSoundNode l.fn.clients l.fn.packets (map (λ ps. length ps) (map (λ p. p.items) l.fn.played)) (map told_entry l.fn.others)) (told_nodes l.fn.nodes)
      → All (IsSoundNode l.fn.clients l.fn.packets (map (λ ps. length ps) (map (λ p. p.items) l.fn.played)) (map told_entry l.fn.others)) (told_nodes l.rest);
  back : All (IsSoundNode l.fn.clients l.fn.packets (map (λ ps. length ps) (map (λ p. p.items) l.fn.played)) (map told_entry l.fn.others)) (told_nodes l.rest)
      → All (IsSoundNode l.fn.clients l.fn.packets (map (λ ps. length ps) (map (λ p. p.items) l.fn.played)) (map told_entry l.fn.others)) (told_nodes l.fn.nodes);
}

abbrev pub decreases-nodes : goal.decreases-nodes
decreases-nodes l = length l.rest
