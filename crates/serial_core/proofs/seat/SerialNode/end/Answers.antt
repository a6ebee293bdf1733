use Rattle.dmx_calls.specs.Invocation as asks
use Rattle.serial_core.proofs.Seats.{seat_fed}
use Rattle.serial_core.proofs.seat.SerialNode.end.Goals as goal

pub returns-clause-at : goal.returns-clause-at
returns-clause-at g c acts n at =
    let k = c.in_ok-hear.ensures.answer n at.core in
    seat_fed acts c.args.self.now c.hear.new.self n asks.End tt c.in_ok-hear.ensures.node c.in_ok-hear.ensures.entries k.1 at
