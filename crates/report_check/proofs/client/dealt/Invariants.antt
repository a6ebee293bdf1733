use Rattle.report_check.proofs.Imports.{◌≡◌, ◌+◌, ◌-◌, ◌++◌, [], length, map, DEMUX_NODES, told_entry, complete, told_nodes, dealt}
use Rattle.report_check.proofs.client.dealt.Given as goal

abbrev pub invariant-nodes : goal.invariant-nodes
invariant-nodes l = record {
  so_far : map (λ h. map told_entry h.now) l.dealt.items ++ complete (DEMUX_NODES + 1 - l.node) l.node [] (told_nodes l.rest)
      ≡ dealt (told_nodes l.fn.nodes);
  long : length l.dealt.items ≡ l.node;
}
