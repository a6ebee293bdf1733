use Rattle.seats.specs.Seated.{IsFit, MayLeave}
use Rattle.seats.proofs.Hands.{Hands}
use Rattle.seats.proofs.seat.Seat.serve.Given as goal

abbrev pub invariant-requests : goal.invariant-requests
invariant-requests g l = record {
  fit : IsFit l.adapter l.self;
  room : MayLeave l.self;
  hands : Hands g.T.Source.end g.T.Sink.end (g.C.Clock.may_give l.clock) (g.C.Clock.may_give_behind l.clock) g.J.Journal.took l.fn.at.line l.fn.at.journal l.fn.self.client l.at.line l.at.journal l.self;
}
