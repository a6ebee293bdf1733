use Rattle.dmx_calls.specs.Invocation as asks
use Rattle.serial_core.proofs.FedOn.{FedOn}
use Rattle.serial_core.proofs.nodes.end_all.Given as goal

abbrev pub invariant-seats : goal.invariant-seats
invariant-seats g l = FedOn asks.End l.initial.seats l.seats l.seat-index
