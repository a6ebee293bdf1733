use Rattle.std.proofs.Common.{◌≡◌, replicate, None}
use Rattle.ts_watch.proofs.watch.no_places.Given as goal

abbrev pub invariant-pids : goal.invariant-pids
invariant-pids l = l.places.items ≡ replicate l.pid None
