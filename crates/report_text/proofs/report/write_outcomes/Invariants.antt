use Rattle.report_text.proofs.Imports.{◌≡◌, take, flat_map, Adds, outcome_text}
use Rattle.report_text.proofs.report.write_outcomes.Given as goal

abbrev pub invariant-outcomes : goal.invariant-outcomes
invariant-outcomes g l = record {
  adds : Adds (g.K.Sink.end l.initial.sink).written (g.K.Sink.end l.sink).written l.initial.waiting l.waiting (flat_map outcome_text (take l.outcome-index l.outcomes));
  steady : (g.K.Sink.end l.sink).faults ≡ (g.K.Sink.end l.initial.sink).faults;
}
