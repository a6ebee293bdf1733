-- The sections of a segment, and of the packets of a PID.
use Rattle.std.specs.Prelude.{◌≡◌, ◌≢◌, ◌≤◌, ℕ, ◌+◌, ◌*◌, ◌%◌, ◌==◌, Bool, ◌&&◌, not, List, [], ◌∷◌, length, take, slice_index, nat_le, if◌then◌else◌}
use Rattle.std.specs.List.{flat_map}
use Rattle.std.proofs.Common.{zero, suc}
use Rattle.ts_packet.specs.Clean.{clean}
use Rattle.section_parse.specs.Segments.{runs, segments}

-- the section_length: the low 12 bits of bytes 1 and 2, the number of bytes that follow them (2.4.4.3)
abbrev pub section_length : List ℕ → ℕ
section_length s = slice_index s 1 % 16 * 256 + slice_index s 2

-- A whole section stands at the front: no stuffing byte 0xFF in the place of its table_id, its first three bytes,
-- a section_length of at most 4093 (2.4.4.11), and the bytes that it counts.
abbrev pub has_section : List ℕ → Bool
has_section s =
    not (slice_index s 0 == 0xff) && (nat_le 3 (length s)
    && (nat_le (section_length s) 4093 && nat_le (3 + section_length s) (length s)))

-- The sections of these bytes, of which the first `inside` belong to a section that was read before them:
-- the section at the front and those behind it, up to the first place where no whole one stands.
unfoldable pub sections_after : ℕ → List ℕ → List (List ℕ)
sections_after inside [] = []
sections_after (suc inside) (byte ∷ bytes) = sections_after inside bytes
sections_after zero (byte ∷ bytes) =
    if has_section (byte ∷ bytes)
    then take (3 + section_length (byte ∷ bytes)) (byte ∷ bytes)
    ∷ sections_after (2 + section_length (byte ∷ bytes)) bytes
    else []

-- the sections of a segment, read from its first byte
unfoldable pub read_sections : List ℕ → List (List ℕ)
read_sections segment = sections_after 0 segment

-- the sections of a run's segments
abbrev pub sections_of_run : List (List ℕ) → List (List ℕ)
sections_of_run run = flat_map read_sections (segments run)

-- the sections of a PID: those of all segments of all runs of its clean packets
unfoldable pub sections : List (List ℕ) → ℕ → List (List ℕ)
sections packets pid = flat_map sections_of_run (runs (clean packets pid))

-- one whole section and nothing else: 3 to 4096 bytes, as many as its section_length says
pub record IsSection (s : List ℕ) : Type 0 where
  pub table : slice_index s 0 ≢ 0xff
  pub most : section_length s ≤ 4093
  pub whole : length s ≡ 3 + section_length s
