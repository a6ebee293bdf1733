use Rattle.std.proofs.Common.{rules, ◌≡◌}
use Rattle.pid_set.specs.Pids.{without_pid}
use Rattle.pid_set.proofs.Rising.{are-without}
use Rattle.pid_set.proofs.set.PidSet.remove.Goals as goal

pub invariant_of-self : goal.invariant_of-self
invariant_of-self g c =
    let new : without_pid c.args.pid c.self.inside.pids.items ≡ c.remove.new.self.items = search rules in
    rw (← new) (are-without c.args.pid c.self.inside.pids.items c.self.invariant)
