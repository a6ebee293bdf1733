use Rattle.workers.proofs.Imports.{◌-◌, ◌^◌, ℕ, List, SourceEnd, IsSameCaller, is_in, Pulling, Draws, IsFitFeeder, LeavesOthers, HasPassed}
use Rattle.workers.proofs.feeder_worker.FeederWorker.pass_all.Given as goal

abbrev pub invariant-batches : goal.invariant-batches
invariant-batches g l = record {
  fit : IsFitFeeder l.adapter l.self;
  same : IsSameCaller l.fn.self.feeder l.self.feeder;
  others : LeavesOthers (is_in l.nodes) l.initial.self.feeder.passes l.self.feeder.passes;
  draws : (packets : List (List ℕ)) × Draws (g.S.Source.end l.initial.source) (g.S.Source.end l.source) l.initial.self.puller l.self.puller packets;
  passed : (before : SourceEnd) (first : Pulling) (was : g.row.B.Denot) → HasPassed (is_in l.nodes) l.most (g.C.Clock.may_give l.clock) (g.C.Clock.may_give_behind l.clock) g.B.Batches.took before (g.S.Source.end l.initial.source) first was l.initial.batches l.initial.self
      → HasPassed (is_in l.nodes) l.most (g.C.Clock.may_give l.clock) (g.C.Clock.may_give_behind l.clock) g.B.Batches.took before (g.S.Source.end l.source) first was l.batches l.self;
}

abbrev pub decreases-batches : goal.decreases-batches
decreases-batches g l = 2 ^ 41 - l.self.puller.given
