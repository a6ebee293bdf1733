use Rattle.workers.proofs.Imports.{take, StopsBy}
use Rattle.workers.proofs.run.stop_of.Given as goal

abbrev pub invariant-clients : goal.invariant-clients
invariant-clients l = StopsBy l.fn.feeder (take l.client-index l.clients) l.stop
