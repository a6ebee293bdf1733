use Rattle.seats.proofs.Doing.{answered_leave, answered_untold, answered_wanting}
use Rattle.seats.proofs.Going.{goes_self}
use Rattle.seats.proofs.seat.Seat.done_without.Goals as goal

pub returns-in-Leave-clause-room : goal.returns-in-Leave-clause-room
returns-in-Leave-clause-room g c node low held = absurd (c.leave.ensures.free node low held)

pub returns-in-Leave-clause-did : goal.returns-in-Leave-clause-did
returns-in-Leave-clause-did g c now =
    answered_untold c.args.ask now c.args.self.now c.leave.new.self c.refused.result.tell c.refused.result.at c.refused.ensures.1
    (answered_leave c.args.ask now c.args.self.now c.leave.new.self c.refused.result.tell c.refused.result.at c.in-Leave.is c.leave.ensures.did c.refused.ensures)

pub returns-in-Leave-clause-gone : goal.returns-in-Leave-clause-gone
returns-in-Leave-clause-gone g c leave = record { held = c.leave.ensures.held; left = c.leave.ensures.left }

pub returns-in_default-clause-goes : goal.returns-in_default-clause-goes
returns-in_default-clause-goes g c = goes_self c.args.self.now

pub returns-in_default-clause-did : goal.returns-in_default-clause-did
returns-in_default-clause-did g c now =
    let r = c.refused-in_default in
    answered_untold c.args.ask now c.args.self.now c.args.self.now r.result.tell r.result.at r.ensures.1
    (answered_wanting c.args.ask now c.args.self.now r.result.tell r.result.at c.in_default.not-Leave r.ensures)
