use Rattle.report_text.proofs.Imports.{◌≡◌, ◌++◌, take, flat_map, outcome_text}
use Rattle.report_text.proofs.whole.add_outcomes.Given as goal

abbrev pub invariant-outcomes : goal.invariant-outcomes
invariant-outcomes l = l.out.items ≡ l.initial.out.items ++ flat_map outcome_text (take l.outcome-index l.outcomes)
