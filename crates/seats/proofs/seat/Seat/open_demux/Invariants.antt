use Rattle.seats.proofs.Imports.{◌≡◌, ◌≤◌, ◌+◌, ◌*◌, length, vec_capacity, IsFit, GoesOn}
use Rattle.seats.proofs.Doing.{HasTried}
use Rattle.seats.proofs.seat.Seat.open_demux.Given as goal

-- two calls for each node that was tried
abbrev pub invariant-nodes : goal.invariant-nodes
invariant-nodes g l = record {
  fit : IsFit l.adapter l.self;
  goes : GoesOn l.fn.self l.self;
  tried : HasTried l.node l.fn.self l.self;
  made : length l.self.made.items ≤ length l.fn.self.made.items + 2 * l.node;
  left : l.fn.self.client.left ≤ l.self.client.left + 2 * l.node;
  more : length l.fn.self.log.items + length l.fn.self.made.items + l.node ≤ length l.self.log.items + length l.self.made.items;
  room : vec_capacity l.self.made ≡ vec_capacity l.fn.self.made;
  told : l.self.outcomes ≡ l.fn.self.outcomes;
}
