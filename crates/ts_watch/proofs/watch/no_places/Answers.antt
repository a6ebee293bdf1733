use Rattle.std.proofs.Common.{◌≡◌, arith}
use Rattle.ts_watch.proofs.watch.no_places.Goals as goal

pub returns : goal.returns
returns c = (let all : c.pids.pid ≡ 8192 = omega (arith, c.pids-test.false, c.pids.auto.pid-end) in rw all at c.pids.invariant)
