use Rattle.item_select.proofs.Imports.{◌≡◌, ◌≤◌, filter, vec_capacity, all_given, bytes_kept, is_selected}
use Rattle.item_select.proofs.section.find.Given as goal

abbrev pub invariant-sections : goal.invariant-sections
invariant-sections l = record {
  kept : all_given l.assembler ≡ all_given l.initial.assembler;
  found : filter (is_selected l.wanted l.check) l.assembler.ready ≡ filter (is_selected l.wanted l.check) l.initial.assembler.ready;
  capacity : vec_capacity l.initial.found ≤ vec_capacity l.found;
}

abbrev pub decreases-sections : goal.decreases-sections
decreases-sections l = bytes_kept l.assembler
