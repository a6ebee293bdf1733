use Rattle.section_crc.proofs.Imports.{◌≡◌, ℕ, ◌<◌, length, get_or, entry_of}
use Rattle.section_crc.proofs.tables.fill.Given as goal

abbrev pub invariant-entries : goal.invariant-entries
invariant-entries l = record {
  size : length l.row ≡ 256;
  right : (j : ℕ) → j < l.byte → get_or l.row j 0 ≡ entry_of l.zeros j;
}
