-- Laws of sections over whole lists of packets.
use Rattle.std.specs.Prelude.{◌≡◌, ◌≤◌, ℕ, ◌+◌, ◌*◌, List, [], ◌∷◌, ◌++◌, length, take, drop, slice_get, false, Some, None, if◌then◌else◌}
use Rattle.std.specs.List.{All, last_or, sum_by}
use Rattle.ts_packet.specs.Fields.{IsPacket}
use Rattle.ts_packet.specs.Clean.{clean, repeats, joins}
use Rattle.section_parse.specs.Sections.{section_length, has_section, read_sections, sections, IsSection}

-- Reading a segment: where a whole section stands at the front, it is the first, and reading
-- goes on behind it; else nothing is read.
abbrev pub SectionsLieEndToEnd : Type 0
SectionsLieEndToEnd =
    (s : List ℕ) → read_sections s ≡ (if has_section s
    then take (3 + section_length s) s ∷ read_sections (drop (3 + section_length s) s) else [])

-- Nothing that was read is withdrawn by what comes later: the sections of the first packets are the first sections.
abbrev pub SectionsStay : Type 0
SectionsStay = (earlier later : List (List ℕ)) (pid : ℕ)
    → (more : List (List ℕ)) × (sections (earlier ++ later) pid ≡ sections earlier pid ++ more)

-- the first of the later clean packets neither joins nor repeats the last of the earlier ones, where there are both
abbrev pub IsApart : List (List ℕ) → List (List ℕ) → Type 0
IsApart earlier later = (before p : List ℕ) → last_or None earlier ≡ Some before → slice_get later 0 ≡ Some p
    → (joins before p ≡ false) × (repeats before p ≡ false)

-- Recovery: from a break on, the sections are those of the packets after it alone, whatever came before.
abbrev pub SectionsRecover : Type 0
SectionsRecover = (earlier later : List (List ℕ)) (pid : ℕ) → IsApart (clean earlier pid) (clean later pid)
    → sections (earlier ++ later) pid ≡ sections earlier pid ++ sections later pid

-- Each is one whole section.
abbrev pub SectionsAreWhole : Type 0
SectionsAreWhole = (packets : List (List ℕ)) (pid : ℕ) → All IsSection (sections packets pid)

-- Together they have no more bytes than the payloads can carry, 184 each.
abbrev pub SectionsFitThePackets : Type 0
SectionsFitThePackets = (packets : List (List ℕ)) (pid : ℕ) → All IsPacket packets
    → sum_by length (sections packets pid) ≤ 184 * length packets
