use Rattle.tests_runs.proofs.Imports.{◌≡◌, ◌+◌, IsSamePass}
use Rattle.tests_runs.proofs.tests.locks.many.make_all.Given as goal

abbrev pub invariant-loop : goal.invariant-loop
invariant-loop g l = IsSamePass l.fn.pass l.pass × (l.fn.pass.1.left ≡ l.pass.1.left + l.counter)
