use Rattle.report_text.proofs.Imports.{◌≡◌, ◌++◌, [], map, drop, AddsSome, clients_text}
use Rattle.report_text.proofs.report.write_clients.Given as goal

abbrev pub invariant-clients : goal.invariant-clients
invariant-clients g l = record {
  adds : AddsSome (g.K.Sink.end l.initial.sink).written (g.K.Sink.end l.sink).written l.initial.waiting l.waiting
      (λ text. text ++ clients_text l.client (drop l.client (map (λ o. o.items) l.outcomes)) ≡ [] ++ clients_text 0 (map (λ o. o.items) l.outcomes));
  steady : (g.K.Sink.end l.sink).faults ≡ (g.K.Sink.end l.initial.sink).faults;
}
