use Rattle.serial_core.proofs.Imports.{◌≡◌, map, range_with_len, Scripted, outcomes, AreAfter, Run, replies_of}
use Rattle.serial_core.proofs.run.outcomes_of.Given as goal

abbrev pub invariant-cores : goal.invariant-cores
invariant-cores l = (script : Scripted) (r : Run) → AreAfter script r l.cores
    → map (λ those. those.items) l.all.items ≡ map (λ client. outcomes client script (replies_of client r)) (range_with_len 0 l.core-index)
