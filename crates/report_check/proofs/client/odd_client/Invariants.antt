use Rattle.report_check.proofs.Imports.{◌≡◌, ◌+◌, length, map, told_nodes, dealt, AreDoneAs}
use Rattle.report_check.proofs.client.odd_client.Given as goal

abbrev pub invariant-clients : goal.invariant-clients
invariant-clients l = record {
  left : l.client + length l.rest ≡ length l.fn.outcomes;
  on : AreDoneAs l.fn.script (dealt (told_nodes l.fn.nodes)) 0 (map (λ o. o.items) l.fn.outcomes)
      → AreDoneAs l.fn.script (dealt (told_nodes l.fn.nodes)) l.client (map (λ o. o.items) l.rest);
  back : AreDoneAs l.fn.script (dealt (told_nodes l.fn.nodes)) l.client (map (λ o. o.items) l.rest)
      → AreDoneAs l.fn.script (dealt (told_nodes l.fn.nodes)) 0 (map (λ o. o.items) l.fn.outcomes);
}

abbrev pub decreases-clients : goal.decreases-clients
decreases-clients l = length l.rest
