use Rattle.feed_pull.proofs.Imports.{sym, subst, Pulling, IsPulling}
use Rattle.feed_pull.proofs.PullLemmas.{Gathers-none, Gathers-room}
use Rattle.feed_pull.proofs.puller.Puller.gather.Goals as goal

pub returns-in_err-make_room-clause-gathers : goal.returns-in_err-make_room-clause-gathers
returns-in_err-make_room-clause-gathers g c = rw c.in_err-make_room.ensures.refused (Gathers-none c.args.self.now _ (rw (← c.self.view_is) c.self.invariant.rest))

pub returns-in_err-make_room-clause-sound : goal.returns-in_err-make_room-clause-sound
returns-in_err-make_room-clause-sound g c = subst (λ (p : Pulling). IsPulling p) (sym c.in_err-make_room.ensures.refused) (rw (← c.self.view_is) c.self.invariant)

pub returns-clause-gathers : goal.returns-clause-gathers
returns-clause-gathers g c = Gathers-room c.args.self.now c.make_room.new.self c.fill.new.self c.args.most _ _ c.in_ok-make_room.ensures.made c.fill.ensures.gathers
