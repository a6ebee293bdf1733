use Rattle.std.proofs.Common.{rules, ◌≡◌}
use Rattle.pid_set.specs.Pids.{with_pid}
use Rattle.pid_set.proofs.Rising.{are-with}
use Rattle.pid_set.proofs.set.PidSet.add.Goals as goal

pub invariant_of-self : goal.invariant_of-self
invariant_of-self g c =
    let new : with_pid c.args.pid c.self.inside.pids.items ≡ c.insert.new.self.items = search rules in
    rw (← new) (are-with c.args.pid c.self.inside.pids.items c.self.invariant c.ranges.pid.fits)
