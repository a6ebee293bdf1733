-- The words of others that the proofs of this crate use.
pub use Rattle.section_crc.specs.Crc.{WithItsCrcIsZero, bit_at, bits_of, carried}
unfoldable pub use Rattle.section_crc.specs.Crc.{after_bit, crc}
pub use Rattle.section_crc.specs.Inside.Tables.{AreRows, IsRow, entry_of}
pub use Rattle.section_crc.specs.declared.rows.TheConstants.{ROWS, ROW_0}
pub use Rattle.std.proofs.Common.{Bool, List, [], add-zero, ap, ap₂, arith, bit_xor, drop, false, fold, get_or, if◌then◌else◌, inl, inr, length, nat_eq, refl, replicate, rules, slice_index, slice_index_or, suc, sym, take, true, zero, zero-add, ℕ, ◌%◌, ◌*◌, ◌+◌, ◌-◌, ◌/◌, ◌<◌, ◌^◌, ◌∙◌, ◌∷◌, ◌≡◌, ◌≤◌, lit<}
pub use Rattle.std.proofs.lemmas.Bool.{cases_lt}
pub use Rattle.std.proofs.lemmas.Bool.Decides.{nat_tests}
pub use Rattle.std.proofs.lemmas.Grind.{flat_map-append, fold-append}
pub use Rattle.std.proofs.lemmas.List.{take-append-drop, take_all, take_more}
pub use Rattle.std.proofs.lemmas.Nat.{xor_block, xor_comm, xor_lt, xor_mod}
pub use Rattle.std.specs.Int.Bits.{xor_assoc, xor_self, xor_zero_l, xor_zero_r}
pub use Rattle.std.specs.List.{flat_map}
