use Rattle.report_text.proofs.Imports.{◌≡◌, ◌++◌, map, drop, clients_text}
use Rattle.report_text.proofs.whole.add_clients.Given as goal

abbrev pub invariant-clients : goal.invariant-clients
invariant-clients l =
    l.out.items ++ clients_text l.client (drop l.client (map (λ o. o.items) l.outcomes)) ≡ l.initial.out.items ++ clients_text 0 (map (λ o. o.items) l.outcomes)
