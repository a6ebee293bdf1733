use Rattle.seats.proofs.Imports.{◌≡◌, ◌≢◌, ◌≤◌, ◌<◌, ◌+◌, ◌*◌, ℕ, true, Some, length, vec_capacity, slice_get, AreClosings, ClosesHeld, HasDone, MarksNoMore, HasLeft, IsFit, GoesOn}
use Rattle.seats.proofs.seat.Seat.leave.Given as goal

-- two calls for each node that was closed, and all of these are left
abbrev pub invariant-nodes : goal.invariant-nodes
invariant-nodes g l = record {
  fit : IsFit l.adapter l.self;
  goes : GoesOn l.fn.self l.self;
  made : length l.self.made.items ≤ length l.fn.self.made.items + 2 * l.node;
  left : l.fn.self.client.left ≤ l.self.client.left + 2 * l.node;
  told : length l.self.outcomes.items ≤ length l.fn.self.outcomes.items + l.node;
  room : (vec_capacity l.self.made ≡ vec_capacity l.fn.self.made) × (vec_capacity l.self.outcomes ≡ vec_capacity l.fn.self.outcomes);
  did : HasDone (AreClosings l.node) l.fn.self l.self;
  held : ClosesHeld l.fn.self l.self;
  fewer : MarksNoMore l.fn.self l.self;
  free : (i : ℕ) → i < l.node → slice_get l.self.held i ≢ Some true;
  gone : (i : ℕ) → i < l.node → HasLeft i l.self.client;
}
