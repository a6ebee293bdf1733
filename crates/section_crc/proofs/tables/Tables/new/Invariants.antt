use Rattle.section_crc.proofs.Imports.{◌≡◌, ℕ, ◌<◌, [], length, slice_index_or, IsRow}
use Rattle.section_crc.proofs.tables.Tables.new.Given as goal

abbrev pub invariant-rows : goal.invariant-rows
invariant-rows g l = record {
  size : length l.rows ≡ l.zeros-end;
  right : (j : ℕ) → j < l.zeros → IsRow j (slice_index_or l.rows j []);
}
