use Rattle.report_read.proofs.Imports.{◌≡◌, ◌∙◌, ◌∷◌, [], rules, arith, map, true, Some, map-append, All-push, told_entry, begins_number, entry_in, IsEntryOf}
use Rattle.report_read.proofs.Many.{many_on}
use Rattle.report_read.proofs.entries.read_entries.Goals as goal

pub entries-preserved : goal.entries-preserved
entries-preserved c =
    let read : entry_in c.args.node c.entries.bytes ≡ Some (told_entry c.in-Some.entry, c.read_entry.new.bytes) = rw c.in-Some.is at c.in_ok-entry.ensures.value in
    let of : IsEntryOf c.args.node (told_entry c.in-Some.entry) = rw c.in-Some.is at c.in_ok-entry.ensures.range in
    let begun : begins_number c.entries.bytes ≡ true = search rules in
    let on = many_on begins_number (entry_in c.args.node) c.entries.left c.entries.bytes c.read_entry.new.bytes (map told_entry c.entries.entries.items) (told_entry c.in-Some.entry) (omega arith) begun read in
    record {
      so_far = rw (c.in_ok-push.ensures.items, map-append told_entry c.entries.entries.items (c.in-Some.entry ∷ [])) (c.entries.invariant.so_far ∙ on);
      range = rw (c.in_ok-push.ensures.items, map-append told_entry c.entries.entries.items (c.in-Some.entry ∷ [])) (All-push (IsEntryOf c.args.node) (map told_entry c.entries.entries.items) (told_entry c.in-Some.entry) c.entries.invariant.range of);
    }
