use Rattle.item_select.proofs.Imports.{◌≡◌, all_given, bytes_kept}
use Rattle.item_select.proofs.section.drain.Given as goal

abbrev pub invariant-sections : goal.invariant-sections
invariant-sections l = all_given l.assembler ≡ all_given l.initial.assembler

abbrev pub decreases-sections : goal.decreases-sections
decreases-sections l = bytes_kept l.assembler
