use Rattle.serve_top.proofs.Imports.{◌≡◌, map, JournalLine, Desk}
use Rattle.serve_top.proofs.journals.parts_of.Given as goal

abbrev pub invariant-desks : goal.invariant-desks
invariant-desks g l = record {
  clients : l.clients.items ≡ map (λ (d : Desk (JournalLine _ _)). d.seat.client) l.yielded;
  journals : l.journals.items ≡ map (λ (d : Desk (JournalLine _ _)). d.line.journal) l.yielded;
}
