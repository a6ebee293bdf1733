use Rattle.seats.proofs.Imports.{arith, ◌≡◌, ap, sym, ◌∙◌, OpenDemux, Call, Leave, act_of, Refused}
use Rattle.seats.proofs.Doing.{answered_open, answered_call, answered_leave, answered_refused, answered_wanting}
use Rattle.seats.proofs.Going.{goes_self}
use Rattle.seats.proofs.seat.Seat.done.Goals as goal

pub returns-in-Refused-clause-goes : goal.returns-in-Refused-clause-goes
returns-in-Refused-clause-goes g c = goes_self c.args.self.now

pub returns-in-OpenDemux-clause-did : goal.returns-in-OpenDemux-clause-did
returns-in-OpenDemux-clause-did g c = answered_open c.args.ask c.args.now c.args.self.now c.open_demux.new.self _ _ c.in-OpenDemux.is (c.open_demux.ensures.did c.args.now)

pub returns-in-Ok-clause-did : goal.returns-in-Ok-clause-did
returns-in-Ok-clause-did g c =
    answered_call c.args.ask c.args.now c.in-Call.node c.in-Call.want c.command-at.result _ c.args.self.now c.command-at.new.self c.told_at.result.tell c.told_at.result.at c.command-at.ensures.did c.command-at.ensures.kept c.in-Call.is
    (ap act_of c.in-Ok.ensures.value) c.told_at.ensures.at c.told_at.ensures.told

pub returns-in_default-clause-did : goal.returns-in_default-clause-did
returns-in_default-clause-did g c =
    answered_wanting c.args.ask c.args.now c.args.self.now _ _ (λ leave. absurd (let both : Call c.in-Call.node c.in-Call.want ≡ Leave = sym c.in-Call.is ∙ leave in cc both)) c.refused.ensures

pub returns-in-Leave-clause-did : goal.returns-in-Leave-clause-did
returns-in-Leave-clause-did g c = answered_leave c.args.ask c.args.now c.args.self.now c.leave.new.self _ _ c.in-Leave.is c.leave.ensures.did c.refused-in-Leave.ensures

pub returns-in-Refused-clause-did : goal.returns-in-Refused-clause-did
returns-in-Refused-clause-did g c = answered_refused c.args.ask c.args.now c.in-Refused.code c.args.self.now _ _ c.in-Refused.is c.refused-in-Refused.ensures

pub returns-in-OpenDemux-clause-gone : goal.returns-in-OpenDemux-clause-gone
returns-in-OpenDemux-clause-gone g c leave = absurd (let both : OpenDemux ≡ Leave = sym c.in-OpenDemux.is ∙ leave in cc both)

pub returns-in-Ok-clause-gone : goal.returns-in-Ok-clause-gone
returns-in-Ok-clause-gone g c leave = absurd (let both : Call c.in-Call.node c.in-Call.want ≡ Leave = sym c.in-Call.is ∙ leave in cc both)

pub returns-in_default-clause-gone : goal.returns-in_default-clause-gone
returns-in_default-clause-gone g c leave = absurd (let both : Call c.in-Call.node c.in-Call.want ≡ Leave = sym c.in-Call.is ∙ leave in cc both)

pub returns-in-Leave-clause-gone : goal.returns-in-Leave-clause-gone
returns-in-Leave-clause-gone g c leave = record { held = c.leave.ensures.held; left = c.leave.ensures.left }

pub returns-in-Refused-clause-gone : goal.returns-in-Refused-clause-gone
returns-in-Refused-clause-gone g c leave = absurd (let both : Refused c.in-Refused.code ≡ Leave = sym c.in-Refused.is ∙ leave in cc both)

pub leave-requires-clause-room : goal.leave-requires-clause-room
leave-requires-clause-room g c node low held = let r = c.requires.room in let a = r.made in let b = r.outcomes in let l = r.left in record { made = omega (arith, a); outcomes = omega (arith, b); left = omega (arith, l) }
