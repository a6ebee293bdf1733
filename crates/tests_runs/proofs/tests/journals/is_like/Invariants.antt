use Rattle.tests_runs.proofs.Imports.{shadow, Utf8}
use Rattle.tests_runs.proofs.tests.journals.is_like.Given as goal

abbrev pub invariant-loop-number : goal.invariant-loop-number
invariant-loop-number l =
    (goal.iterator-loop-number).can_next l.number-iterator × (goal.iterator-loop-number).is_finite l.number-iterator × shadow (Utf8 l.rest)
