use Rattle.section_crc.proofs.Imports.{◌≡◌, entry_of}
use Rattle.section_crc.proofs.tables.entry.Given as goal

abbrev pub invariant-zeros : goal.invariant-zeros
invariant-zeros l = l.register ≡ entry_of l._i l.byte
