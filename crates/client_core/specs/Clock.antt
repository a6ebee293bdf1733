-- The program clock reference of a packet and the clock of a stream. The fields are those of ISO/IEC 13818-1, 2.4.3.4
-- and 2.4.3.5, where the first byte of a packet is byte 0. That the clock of a stream is the last that one of its
-- packets has, whatever that packet's PID, is this project's rule.
use Rattle.std.specs.Prelude.{◌≡◌, ℕ, ◌+◌, ◌*◌, ◌/◌, ◌%◌, Bool, ◌&&◌, List, [], ◌∷◌, drop, slice_index, nat_lt, Option, Some, None, if◌then◌else◌}
use Rattle.client_core.specs.Imports.{Cuts, Cutting, Of188, big_number, bit, cut, fresh, has_adaptation, option_or}

-- PCR_flag: the bit of weight 16 in byte 5, where there is an adaptation field whose length, in byte 4, has room for
-- the byte of flags and the six bytes of the clock
abbrev pub has_pcr : List ℕ → Bool
has_pcr p = has_adaptation p && (nat_lt 6 (slice_index p 4) && bit (slice_index p 5) 16)

-- program_clock_reference_base: the 33 bits from byte 6 on, so four bytes and the first bit of byte 10; in units of 90
-- kHz
abbrev pub pcr_base : List ℕ → ℕ
pcr_base p = big_number 4 (drop 6 p) * 2 + slice_index p 10 / 128

-- program_clock_reference_extension: the last bit of byte 10, then byte 11; in units of 27 MHz. The six bits between
-- base and extension are reserved.
abbrev pub pcr_extension : List ℕ → ℕ
pcr_extension p = slice_index p 10 % 2 * 256 + slice_index p 11

-- the program clock reference of a packet, in units of 27 MHz, of which 300 make one of 90 kHz
abbrev pub pcr_of : List ℕ → Option ℕ
pcr_of p = if has_pcr p then Some (pcr_base p * 300 + pcr_extension p) else None

-- the last that these packets have: one behind the first packet, or else that of the first
abbrev pub last_pcr : List (List ℕ) → Option ℕ
last_pcr [] = None
last_pcr (p ∷ ps) = option_or (last_pcr ps) (pcr_of p)

-- the clock of these bytes: the last that the packets of their cutting have, where each packet takes up its own 188
abbrev pub clock_of : List ℕ → Option ℕ
clock_of bytes = last_pcr (cut Of188 bytes).packets

-- ------ what a clock keeps

-- the cutting so far, and the last program clock reference
pub record Clock : Type 0 where
  pub cutting : Cutting
  pub last : Option ℕ

-- no byte was pushed
abbrev pub unset : Clock
unset = record { cutting = fresh Of188; last = None }

-- The clock has followed these bytes: its cutting has taken them, and `last` is the last of the packets that were
-- found.
pub record HasFollowed (bytes : List ℕ) (c : Clock) : Type 0 where
  pub found : List (List ℕ)
  pub cuts : Cuts (fresh Of188) bytes found c.cutting
  pub last : c.last ≡ last_pcr found
