use Rattle.emu_top.proofs.Imports.{◌≡◌, ◌≤◌, ◌-◌, length, Consumes}
use Rattle.emu_top.proofs.asked.read_bytes.Given as goal

abbrev pub invariant-reading : goal.invariant-reading
invariant-reading g l = record {
  bytes : Consumes (g.S.Source.end l.initial.source).left (g.S.Source.end l.source).left l.bytes.items;
  steady : (g.S.Source.end l.source).faults ≡ (g.S.Source.end l.initial.source).faults;
  few : length l.bytes.items ≤ l.most;
}

abbrev pub decreases-reading : goal.decreases-reading
decreases-reading g l = l.most - length l.bytes.items
