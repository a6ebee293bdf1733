use Rattle.std.proofs.Common.{rules, ◌≡◌, length, None, get_or, arith}
use Rattle.ts_watch.proofs.Places.{has-room, placed, not-both}
use Rattle.ts_watch.proofs.watch.Watch.place.Goals as goal

pub overflow_cast-place : goal.overflow_cast-place
overflow_cast-place c =
    let none : get_or c.self.inside.places.items c.pid-pid.result None ≡ None = search rules in
    let room = has-room c.self.inside.places.items c.pid-pid.result (omega (arith, c.self.invariant.0.size, c.pid-pid.ensures.fits)) none in
    omega (arith, room, c.self.invariant.0.size, c.self.invariant.0.all, c.len-place.ensures)

pub unreachable-requires : goal.unreachable-requires
unreachable-requires c =
    let none : get_or c.self.inside.places.items c.pid-pid.result None ≡ None = search rules in
    let room = has-room c.self.inside.places.items c.pid-pid.result (omega (arith, c.self.invariant.0.size, c.pid-pid.ensures.fits)) none in
    let ok = c.push.ensures.succeeds (omega (arith, room, c.self.invariant.0.size, c.self.invariant.0.all, c.self.invariant.1)) in
    let failed = c.in-Err.is in
    not-both (rw failed at ok)

pub invariant_of-self : goal.invariant_of-self
invariant_of-self c =
    let none : get_or c.self.inside.places.items c.pid-pid.result None ≡ None = search rules in
    let p = placed _ c.pid-pid.result c.self.invariant.0 c.pid-pid.ensures.fits none in
    let i = c.in-Ok.ensures.items in
    let k = c.in-Ok.ensures.capacity in
    let place : c.len-place.result ≡ length c.self.inside.seen.items = search rules in
    (rw (i, place, c.new.ensures) p, omega (arith, c.self.invariant.1, k))
