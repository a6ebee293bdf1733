use Rattle.report_text.proofs.Imports.{◌≡◌, ◌≤◌, ◌+◌, [], length, AddsSome}
use Rattle.report_text.proofs.Turning.{IsWeaving}
use Rattle.report_text.proofs.histories.write_entries.Given as goal

abbrev pub invariant-calls : goal.invariant-calls
invariant-calls g l = record {
  step : l.step ≤ length l.feeding + 1;
  adds : AddsSome (g.K.Sink.end l.initial.sink).written (g.K.Sink.end l.sink).written l.initial.waiting l.waiting (IsWeaving l.feeding l.calls l.told l.step []);
  steady : (g.K.Sink.end l.sink).faults ≡ (g.K.Sink.end l.initial.sink).faults;
}
