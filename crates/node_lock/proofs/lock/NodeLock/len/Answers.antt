use Rattle.node_lock.proofs.Keeps.{just_of}
use Rattle.node_lock.proofs.lock.NodeLock.len.Goals as goal

pub returns-clause-whole : goal.returns-clause-whole
returns-clause-whole g c = just_of g.M.Machine.who_of c.glance.new.seat.me.0 c.glance.ensures.sees.6
