use Rattle.emu_top.proofs.Imports.{◌≡◌, ◌≤◌, ◌-◌, ◌+◌, length, IfSome, Consumes, script_len, whole_lines, most_bytes}
use Rattle.emu_top.proofs.part.read_front.Given as goal

abbrev pub invariant-reading : goal.invariant-reading
invariant-reading g l = record {
  within : length l.part ≤ most_bytes;
  bytes : Consumes (g.S.Source.end l.initial.source).left (g.S.Source.end l.source).left l.part;
  steady : (g.S.Source.end l.source).faults ≡ (g.S.Source.end l.initial.source).faults;
  counted : l.reads ≤ length l.part;
  ahead : IfSome (script_len (whole_lines l.part)) (λ n. length l.part ≤ n + 65535);
}

abbrev pub decreases-reading : goal.decreases-reading
decreases-reading g l = most_bytes - length l.part
