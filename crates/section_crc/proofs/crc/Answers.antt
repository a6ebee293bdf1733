-- Each entry of the table is as its rule says: the checker works them all out.
use Rattle.section_crc.proofs.crc.Goals as goal
use Rattle.section_crc.proofs.Imports.{◌≡◌, ℕ, zero, suc, ◌+◌, ◌<◌, List, [], ◌∷◌, fold, length, refl, ap, ◌∙◌, arith, slice_index, zero-add, bits_of, entry_of, IsRow, AreRows, ROWS, ROW_0, after_bit, lit<}

-- the entries of count bytes from the byte on, with no byte of 0
entries : (byte count : ℕ) → List ℕ
entries byte zero = []
entries byte (suc count) = fold after_bit 0 (bits_of byte) ∷ entries (suc byte) count

row-0 : ROW_0 ≡ entries 0 256
unfolding entries after_bit
row-0 = refl

entries-at : (byte count i : ℕ) → i < count → slice_index (entries byte count) i ≡ entry_of 0 (byte + i)
unfolding entries
entries-at byte zero i h = absurd (omega arith)
entries-at byte (suc count) zero h = let e : byte ≡ byte + 0 = omega arith in ap (entry_of 0) e
entries-at byte (suc count) (suc i) h = let e : suc byte + i ≡ byte + suc i = omega arith in entries-at (suc byte) count i (omega arith) ∙ ap (entry_of 0) e

is-row-0 : IsRow 0 ROW_0
is-row-0 byte h = ap (λ (r : List ℕ). slice_index r byte) row-0 ∙ entries-at 0 256 byte h ∙ ap (entry_of 0) (zero-add byte)

pub are-rows : AreRows ROWS
are-rows zero h = is-row-0
are-rows (suc k) h = absurd (omega arith)

pub crc_by-requires : goal.crc_by-requires
crc_by-requires c = (lit< tt, (lit< tt, are-rows))
