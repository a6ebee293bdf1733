use Rattle.workers.specs.Inside.Working.{HasLooked, IsFit}
use Rattle.workers.proofs.client_worker.ClientWorker.look_past.Given as goal

abbrev pub invariant-looks : goal.invariant-looks
invariant-looks g l =
    (goal.iterator-looks g).can_next l.iterator' × (goal.iterator-looks g).is_finite l.iterator'
    × HasLooked l.adapter l.fn.self l.self × IsFit l.adapter l.self
