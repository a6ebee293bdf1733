use Rattle.std.proofs.Common.{vec_len}
use Rattle.tests_runs.proofs.Parity.{InTwo}
use Rattle.tests_runs.proofs.tests.locks.many.join_by_parity.Given as goal

abbrev pub invariant-loop-pass : goal.invariant-loop-pass
invariant-loop-pass g l = InTwo l.lock 64 l.passes.items l.odd l.even

abbrev pub decreases-loop-pass : goal.decreases-loop-pass
decreases-loop-pass g l = vec_len l.passes
