use Rattle.client_script.proofs.Imports.{◌≡◌, ◌≤◌, length, take, drop, HasNoFeed, Passes}
use Rattle.client_script.proofs.part.pass_lines.Given as goal

abbrev pub invariant-lines : goal.invariant-lines
invariant-lines l = record {
  behind : l.rest ≡ drop l.passed l.bytes;
  front : l.passed ≤ length l.bytes;
  within : l.known ≤ length l.rest;
  none : HasNoFeed (take l.known l.rest);
  passes : Passes l.passed l.bytes;
}

abbrev pub decreases-lines : goal.decreases-lines
decreases-lines l = length l.rest
