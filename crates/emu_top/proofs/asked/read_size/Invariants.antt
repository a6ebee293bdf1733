use Rattle.emu_top.proofs.Imports.{◌≡◌, ◌≤◌, ◌-◌, length, Consumes, HasNoFeed}
use Rattle.emu_top.proofs.asked.read_size.Given as goal

abbrev pub invariant-reading : goal.invariant-reading
invariant-reading g l = record {
  bytes : Consumes (g.S.Source.end l.initial.source).left (g.S.Source.end l.source).left l.line.items;
  steady : (g.S.Source.end l.source).faults ≡ (g.S.Source.end l.initial.source).faults;
  none : HasNoFeed l.line.items;
  few : length l.line.items ≤ 40;
}

abbrev pub decreases-reading : goal.decreases-reading
decreases-reading g l = 40 - length l.line.items
