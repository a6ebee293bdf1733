use Rattle.workers.proofs.Imports.{◌≤◌, ◌-◌, MOST_CALLS, IsSameCaller, IsFit, GoesOn}
use Rattle.workers.proofs.client_worker.ClientWorker.run.Given as goal

abbrev pub invariant-calls : goal.invariant-calls
invariant-calls g l = record {
  same : IsSameCaller l.fn.self.client l.self.client;
  fit : IsFit l.adapter l.self;
  few : l.self.core.step ≤ MOST_CALLS;
  goes_on : GoesOn (g.C.Clock.may_give l.clock) l.fn.self l.self;
}

abbrev pub decreases-calls : goal.decreases-calls
decreases-calls g l = MOST_CALLS - l.self.core.step
