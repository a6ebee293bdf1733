use Rattle.seats.proofs.Imports.{◌≡◌, ℕ, Bool, true, List, [], Option, Some, ap, sym, subst, slice_get, HasAnswered, data_read, call_at}
use Rattle.seats.proofs.Doing.{has_answered}
use Rattle.seats.proofs.Going.{goes_trans}
use Rattle.seats.proofs.seat.Seat.answer.Goals as goal

pub returns-in-Ok-clause-goes : goal.returns-in-Ok-clause-goes
returns-in-Ok-clause-goes g c = goes_trans c.args.self.now c.reserve.new.self c.done.new.self c.reserve.ensures.goes c.done.ensures.goes

pub returns-in-Ok-clause-room : goal.returns-in-Ok-clause-room
returns-in-Ok-clause-room g c node low held = c.done.ensures.room

pub returns-in-Ok-clause-answered : goal.returns-in-Ok-clause-answered
returns-in-Ok-clause-answered g c =
    has_answered c.args.ask c.args.now c.args.self.now c.reserve.new.self c.done.new.self _ _ c.reserve.ensures.same c.reserve.ensures.told c.reserve.ensures.held
    (goes_trans c.args.self.now c.reserve.new.self c.done.new.self c.reserve.ensures.goes c.done.ensures.goes) c.done.ensures.gone c.done.ensures.did

pub done_without-requires-clause-room : goal.done_without-requires-clause-room
done_without-requires-clause-room g c node low held = c.reserve.ensures.still 66 (c.requires.room node low (subst (λ (h : List Bool). slice_get h node ≡ Some true) c.reserve.ensures.held held))

pub returns-in-Err-clause-goes : goal.returns-in-Err-clause-goes
returns-in-Err-clause-goes g c = goes_trans c.args.self.now c.reserve.new.self c.done_without.new.self c.reserve.ensures.goes c.done_without.ensures.goes

pub returns-in-Err-clause-answered : goal.returns-in-Err-clause-answered
returns-in-Err-clause-answered g c =
    let none : data_read (call_at c.done_without.new.self.made.items c.done_without.result.at) ≡ [] = ap (λ (o : Option ℕ). data_read (call_at c.done_without.new.self.made.items o)) c.done_without.ensures.at in
    subst (HasAnswered c.args.ask c.args.now c.args.self.now c.done_without.new.self c.done_without.result.tell) (sym none)
    (has_answered c.args.ask c.args.now c.args.self.now c.reserve.new.self c.done_without.new.self _ _ c.reserve.ensures.same c.reserve.ensures.told c.reserve.ensures.held
    (goes_trans c.args.self.now c.reserve.new.self c.done_without.new.self c.reserve.ensures.goes c.done_without.ensures.goes) c.done_without.ensures.gone (c.done_without.ensures.did c.args.now))
