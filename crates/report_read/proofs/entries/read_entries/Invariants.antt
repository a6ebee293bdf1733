use Rattle.report_read.proofs.Imports.{◌≡◌, map, told_entry, All, IsEntryOf, onto, many, all_in, begins_number, entry_in}
use Rattle.report_read.proofs.entries.read_entries.Given as goal

abbrev pub invariant-entries : goal.invariant-entries
invariant-entries l = record {
  so_far : all_in begins_number (entry_in l.node) l.fn.bytes
      ≡ onto (map told_entry l.entries.items) (many begins_number (entry_in l.node) l.left l.bytes);
  range : All (IsEntryOf l.node) (map told_entry l.entries.items);
}

abbrev pub decreases-entries : goal.decreases-entries
decreases-entries l = l.left
