use Rattle.seats.proofs.seat.Seat.hand_over_last.Goals as goal

pub returns-then-is_err-clause-took : goal.returns-then-is_err-clause-took
returns-then-is_err-clause-took g c = c.miss.ensures _ _ c.args.journal.now
