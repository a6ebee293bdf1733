use Rattle.ts_watch.proofs.Imports.{◌≡◌, ◌+◌, ◌∙◌, Some, None, get_or, arith, sym, ap, get_or_default, pid_of, Seen, Watching, kept, after, nothing}
use Rattle.ts_watch.proofs.Places.{taken-in, shown, kept-placed, kept-taken, kept-others}
use Rattle.ts_watch.proofs.watch.Watch.watch.Goals as goal

pub invariant_of-self : goal.invariant_of-self
invariant_of-self c =
    let t = c.take.ensures in
    let at : get_or c.self.inside.places.items (pid_of c.args.packet.now) None ≡ Some c.place-place.result = rw (← c.self.view_is) at c.place-place.ensures.place in
    (taken-in _ (pid_of c.args.packet.now) c.place-place.result c.index_mut.result.now c.take.new.self c.self.invariant.0 at c.index_mut.ensures.value t.pid t.packets t.sound, c.self.invariant.1)

pub returns-clause-stands : goal.returns-clause-stands
returns-clause-stands c = λ packets h.
    let i = c.self.inside in
    let w : Watching = record { watched = i.watched; places = i.places.items; seen = i.seen.items } in
    let pid = pid_of c.args.packet.now in
    let at : get_or i.places.items pid None ≡ Some c.place-place.result = rw (← c.self.view_is) at c.place-place.ensures.place in
    let count : i.watched ≡ c.args.self.now.watched = rw (← c.self.view_is) at c.place-place.ensures.watched in
    let same : kept w pid ≡ kept c.args.self.now pid = rw (← c.self.view_is) at c.place-place.ensures.same pid in
    let was : c.index_mut.result.now ≡ kept c.args.self.now pid = c.index_mut.ensures.value ∙ get_or_default i.seen.items c.place-place.result c.index_mut.result.now (nothing pid) (c.self.invariant.0.own pid c.place-place.result at).0 ∙ sym (kept-placed w pid c.place-place.result at) ∙ same in
    shown c.args.self.now _ c.args.packet.now packets
    (omega (arith, count))
    (kept-taken w pid c.place-place.result (i.watched + 1) c.take.new.self c.self.invariant.0 at ∙ c.take.ensures.value ∙ ap (λ (s : Seen). after s c.args.packet.now) was)
    (λ other ne. kept-others w pid other c.place-place.result (i.watched + 1) c.take.new.self c.self.invariant.0 at ne ∙ (rw (← c.self.view_is) at c.place-place.ensures.same other))
    h
