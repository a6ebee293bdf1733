use Rattle.report_text.proofs.Imports.{◌≡◌, ◌≤◌, ◌*◌, ◌^◌, map, take, told_entry, bytes_read}
use Rattle.report_text.proofs.sums.bytes_read.Given as goal

abbrev pub invariant-calls : goal.invariant-calls
invariant-calls l = (l.sum ≡ bytes_read (map told_entry (take l.call-index l.calls))) × (l.sum ≤ l.call-index * 2 ^ 63)
