-- Tables by which several bytes are taken at once.
use Rattle.std.specs.Prelude.{◌≡◌, ℕ, ◌<◌, List, [], ◌∷◌, fold, length, slice_index, slice_index_or, replicate}
use Rattle.std.specs.List.{flat_map}
use Rattle.section_crc.specs.Crc.{after_bit, bits_of}

-- the register after a byte and so many bytes of 0, from a register of 0
abbrev pub entry_of : ℕ → ℕ → ℕ
entry_of zeros byte = fold after_bit 0 (flat_map bits_of (byte ∷ replicate zeros 0))

-- a table has this for each byte
abbrev pub IsRow : ℕ → List ℕ → Type 0
IsRow zeros row = (byte : ℕ) → byte < 256 → slice_index row byte ≡ entry_of zeros byte

-- table j has it with j bytes of 0
abbrev pub AreRows : List (List ℕ) → Type 0
AreRows rows = (j : ℕ) → j < length rows → IsRow j (slice_index_or rows j [])
