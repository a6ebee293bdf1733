use Rattle.report_text.proofs.Imports.{◌≡◌, ◌≤◌, ◌+◌, ◌-◌, [], length, AddsSome}
use Rattle.report_text.proofs.Turning.{IsEnding}
use Rattle.report_text.proofs.histories.write_turns_behind.Given as goal

abbrev pub invariant-turns : goal.invariant-turns
invariant-turns g l = record {
  step : l.next ≤ length l.feeding + 1;
  adds : AddsSome (g.K.Sink.end l.initial.sink).written (g.K.Sink.end l.sink).written l.initial.waiting l.waiting (IsEnding l.feeding l.told l.step l.next []);
  steady : (g.K.Sink.end l.sink).faults ≡ (g.K.Sink.end l.initial.sink).faults;
}

abbrev pub decreases-turns : goal.decreases-turns
decreases-turns g l = length l.feeding + 1 - l.next
