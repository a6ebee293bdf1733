use Rattle.std.proofs.Common.{arith}
use Rattle.ts_watch.proofs.Places.{begins, begins-with}
use Rattle.ts_watch.proofs.watch.Watch.new.Goals as goal

pub invariant_of-result : goal.invariant_of-result
invariant_of-result c = (begins _ _ c.in_ok-no_places.ensures c.in_ok-with_capacity.ensures.items, omega (arith, c.in_ok-with_capacity.ensures.capacity))

pub returns-clause-stands : goal.returns-clause-stands
returns-clause-stands c = begins-with _ _ c.in_ok-no_places.ensures
