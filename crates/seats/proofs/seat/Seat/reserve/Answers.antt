use Rattle.seats.proofs.Imports.{Vec, Global, Outcome, length, ap}
use Rattle.seats.proofs.Going.{same_fit}
use Rattle.seats.proofs.seat.Seat.reserve.Goals as goal

pub returns-in_err-settle-clause-fit : goal.returns-in_err-settle-clause-fit
returns-in_err-settle-clause-fit c locks f =
    let r = c.settle.ensures.rest in same_fit locks c.args.self.now c.settle.new.self r.0 r.1 r.4 c.settle.ensures.same r.3 (ap (λ (v : Vec Outcome Global). length v.items) r.2) f
