use Rattle.report_read.proofs.Imports.{◌≡◌, ◌+◌, length, digits}
use Rattle.report_read.proofs.bytes.digits_of.Given as goal

abbrev pub invariant-digits : goal.invariant-digits
invariant-digits l = record {
  so_far : digits l.bytes ≡ l.count + digits l.rest;
  left : length l.bytes ≡ l.count + length l.rest;
}

abbrev pub decreases-digits : goal.decreases-digits
decreases-digits l = length l.rest
