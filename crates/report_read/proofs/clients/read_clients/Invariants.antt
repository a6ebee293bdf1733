use Rattle.report_read.proofs.Imports.{◌≡◌, map, codes, All, IsOutcomeInRange, onto, many, begins_with, client_in, clients_in}
use Rattle.report_read.proofs.clients.read_clients.Given as goal

abbrev pub invariant-clients : goal.invariant-clients
invariant-clients l = record {
  so_far : clients_in l.fn.bytes ≡ onto (map (λ o. o.items) l.clients.items) (many (begins_with (codes "client ")) client_in l.left l.bytes);
  range : All (All IsOutcomeInRange) (map (λ o. o.items) l.clients.items);
}

abbrev pub decreases-clients : goal.decreases-clients
decreases-clients l = l.left
