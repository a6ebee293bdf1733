use Rattle.report_check.proofs.Imports.{◌≡◌, ◌<◌, ◌≤◌, ◌^◌, ℕ, true, length, map, DEMUX_NODES, brought_from, told_nodes, are_sound, IsPlayed}
use Rattle.std.proofs.Common.{All}
use Rattle.report_check.proofs.play.odd_play.Given as goal

abbrev pub invariant-nodes : goal.invariant-nodes
invariant-nodes l = record {
  nodes : All (λ n. (n.node ≤ DEMUX_NODES) × (length n.entries < 2 ^ 50)) (told_nodes l.rest);
  sound : (clients : ℕ) × All (λ n. are_sound clients (length l.fn.packets) (map (λ ps. length ps) (map (λ p. p.items) l.fn.played)) n.entries ≡ true) (told_nodes l.rest);
  on : All (IsPlayed (brought_from l.fn.packets (map (λ p. p.items) l.fn.played))) (told_nodes l.fn.nodes)
      → All (IsPlayed (brought_from l.fn.packets (map (λ p. p.items) l.fn.played))) (told_nodes l.rest);
  back : All (IsPlayed (brought_from l.fn.packets (map (λ p. p.items) l.fn.played))) (told_nodes l.rest)
      → All (IsPlayed (brought_from l.fn.packets (map (λ p. p.items) l.fn.played))) (told_nodes l.fn.nodes);
}

abbrev pub decreases-nodes : goal.decreases-nodes
decreases-nodes l = length l.rest
