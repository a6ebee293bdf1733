-- The CRC of a section, one bit at a time (ISO/IEC 13818-1, Annex A, the CRC decoder model).
use Rattle.std.specs.Prelude.{◌≡◌, ℕ, ◌*◌, ◌/◌, ◌%◌, ◌^◌, List, [], ◌∷◌, ◌++◌, fold, nat_eq, bit_xor, if◌then◌else◌}
use Rattle.std.specs.List.{flat_map}

-- bit k of a number; bit 0 is the least significant
abbrev pub bit_at : ℕ → ℕ → ℕ
bit_at n k = n / 2 ^ k % 2

-- the bits of a byte, the most significant first
abbrev pub bits_of : ℕ → List ℕ
bits_of byte =
    bit_at byte 7 ∷ bit_at byte 6 ∷ bit_at byte 5 ∷ bit_at byte 4 ∷ bit_at byte 3 ∷ bit_at byte 2 ∷ bit_at byte 1
    ∷ bit_at byte 0 ∷ []

-- x^32 + x^26 + x^23 + x^22 + x^16 + x^12 + x^11 + x^10 + x^8 + x^7 + x^5 + x^4 + x^2 + x + 1, without its highest term
abbrev pub polynomial : ℕ
polynomial = 0x04C11DB7

-- The register after one more bit: its 32 bits move up by one place, and where the bit that leaves it isn't the bit
-- that comes, the polynomial is added, modulo 2 in each bit.
unfoldable pub after_bit : ℕ → ℕ → ℕ
after_bit register bit =
    if nat_eq (bit_at register 31) bit then register * 2 % 2 ^ 32 else bit_xor (register * 2 % 2 ^ 32) polynomial

-- The register begins with 32 ones and takes the bits of all bytes in their order. What it then holds is the CRC.
unfoldable pub crc : List ℕ → ℕ
crc bytes = fold after_bit 0xFFFFFFFF (flat_map bits_of bytes)

-- a CRC as a section carries it: four bytes, the most significant first (2.4.4.5, CRC_32)
abbrev pub carried : ℕ → List ℕ
carried n = n / 2 ^ 24 % 256 ∷ n / 2 ^ 16 % 256 ∷ n / 2 ^ 8 % 256 ∷ n % 256 ∷ []

-- What CRC_32 is for (2.4.4.5): over any bytes with their own CRC behind them the register ends as 0.
abbrev pub WithItsCrcIsZero : List ℕ → Type 0
WithItsCrcIsZero bytes = crc (bytes ++ carried (crc bytes)) ≡ 0
