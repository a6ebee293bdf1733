use Rattle.seats.proofs.Imports.{length, ◌-◌, ◌≡◌, ◌≤◌, take, Appends}
use Rattle.seats.proofs.serve.write_whole.Given as goal

abbrev pub invariant-writing : goal.invariant-writing
invariant-writing g l = record {
  within : l.done ≤ length l.bytes;
  bytes : Appends (g.K.Sink.end l.initial.sink).written (g.K.Sink.end l.sink).written (take l.done l.bytes);
  steady : (g.K.Sink.end l.sink).faults ≡ (g.K.Sink.end l.initial.sink).faults;
}

abbrev pub decreases-writing : goal.decreases-writing
decreases-writing g l = length l.bytes - l.done
