use Rattle.dmx_calls.specs.declared.params.Input.TheVariants.{Frontend}
use Rattle.dmx_calls.specs.Invocation as asks
use Rattle.serial_core.proofs.FedOn.{FedOn}
use Rattle.serial_core.proofs.nodes.pass_all.Given as goal

abbrev pub invariant-seats : goal.invariant-seats
invariant-seats g l = FedOn (asks.Pass Frontend l.batch.first l.batch.packets l.now) l.initial.seats l.seats l.seat-index
