use Rattle.report_text.proofs.Imports.{◌≡◌, ◌≤◌, map, take, told_entry, overflows}
use Rattle.report_text.proofs.sums.overflows.Given as goal

abbrev pub invariant-calls : goal.invariant-calls
invariant-calls l = (l.count ≡ overflows (map told_entry (take l.call-index l.calls))) × (l.count ≤ l.call-index)
