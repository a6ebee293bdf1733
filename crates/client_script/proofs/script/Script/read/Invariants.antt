use Rattle.client_script.proofs.Imports.{◌≡◌, ◌+◌, ◌≤◌, length, All, grammar, whole_lines}
use Rattle.client_script.proofs.Scripts.{script_by, missing_in}
use Rattle.client_script.proofs.script.Script.read.Given as goal

abbrev pub invariant-lines : goal.invariant-lines
invariant-lines l = record {
  script : grammar l.bytes ≡ script_by (missing_in l.bytes) l.script l.number l.rest;
  ends : l.number + length (whole_lines l.rest) ≡ (missing_in l.bytes).line;
  fits : l.number + length l.rest ≤ 1 + length l.bytes;
  few : 1 + length l.script.lines ≤ l.number;
  writes : All (λ writes. 1 + length writes ≤ l.number) l.script.writes;
}

abbrev pub decreases-lines : goal.decreases-lines
decreases-lines l = length l.rest
