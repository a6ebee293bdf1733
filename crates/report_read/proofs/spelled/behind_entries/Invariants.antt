use Rattle.report_read.proofs.Imports.{◌≡◌, map, take, flat_map, told_entry, entry_text, gone}
use Rattle.report_read.proofs.spelled.behind_entries.Given as goal

abbrev pub invariant-entries : goal.invariant-entries
invariant-entries l = l.left ≡ gone ((flat_map entry_text (map told_entry (take l.entry-index l.entries)))) l.initial.left
