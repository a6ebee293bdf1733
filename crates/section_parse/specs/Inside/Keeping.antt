-- What an assembler keeps between two packets, and how that stands for the packets pushed.
-- These are the words of the machine. No definition of a section rests on them.
use Rattle.std.specs.Prelude.{◌≡◌, ℕ, ◌+◌, MatchOption, Bool, ◌==◌, ◌&&◌, ◌||◌, not, false, List, [], ◌∷◌, ◌++◌, length, drop, slice_index, filter, nat_le, nat_lt, Option, Some, None, if◌then◌else◌}
use Rattle.std.specs.List.{flat_map, fold, sum_by}
use Rattle.std.proofs.Common.{zero, suc}
use Rattle.ts_packet.specs.Fields.{unit_start}
use Rattle.ts_packet.specs.Clean.{carried, is_usable, repeats, without_repeats_after, joins}
use Rattle.section_parse.specs.Segments.{runs, begun, is_pointed, pointed, rest_of_segment}
use Rattle.section_parse.specs.Sections.{section_length, has_section, read_sections, sections_of_run, sections}

-- The PID; the last clean packet; the sections that are whole and not given yet; the bytes behind
-- them in the open segment, if one is open.
pub record Assembly : Type 0 where
  pub pid : ℕ
  pub before : Option (List ℕ)
  pub ready : List (List ℕ)
  pub open_now : Option (List ℕ)

-- nothing but a PID
abbrev pub cleared : ℕ → Assembly
cleared pid = record { pid = pid; before = None; ready = []; open_now = None }

-- without the section that is given next
abbrev pub without_first : Assembly → Assembly
without_first a = record { pid = a.pid; before = a.before; ready = drop 1 a.ready; open_now = a.open_now }

-- with all its sections given
abbrev pub all_given : Assembly → Assembly
all_given a = record { pid = a.pid; before = a.before; ready = []; open_now = a.open_now }

-- no section comes, whatever follows: stuffing in a table_id's place, or too great a section_length
abbrev pub is_stopped : List ℕ → Bool
is_stopped s = (slice_index s 0 == 0xff) || (nat_le 3 (length s) && nat_lt 4093 (section_length s))

-- what stands behind the sections of these bytes, where more can come
unfoldable pub left_after : ℕ → List ℕ → Option (List ℕ)
left_after inside [] = Some []
left_after (suc inside) (byte ∷ bytes) = left_after inside bytes
left_after zero (byte ∷ bytes) =
    if has_section (byte ∷ bytes) then left_after (2 + section_length (byte ∷ bytes)) bytes
    else if is_stopped (byte ∷ bytes) then None else Some (byte ∷ bytes)

-- the sections of the segment that is open, if one is
abbrev pub sections_of_open : Option (List ℕ) → List (List ℕ)
sections_of_open None = []
sections_of_open (Some s) = read_sections s

-- what stands behind the sections of the open segment, if one is
abbrev pub left_of_open : Option (List ℕ) → Option (List ℕ)
left_of_open None = None
left_of_open (Some s) = left_after 0 s

-- the open segment with these bytes behind it
abbrev pub longer : Option (List ℕ) → List ℕ → Option (List ℕ)
longer None bytes = None
longer (Some s) bytes = Some (s ++ bytes)

-- the segment that a packet opens
abbrev pub opened : List ℕ → Option (List ℕ)
opened p = if unit_start p && is_pointed p then Some (begun p) else None

-- p repeats the packet before, if there was one
abbrev pub repeats_last : Option (List ℕ) → List ℕ → Bool
repeats_last None p = false
repeats_last (Some before) p = repeats before p

-- p joins the packet before, if there was one
abbrev pub joins_last : Option (List ℕ) → List ℕ → Bool
joins_last None p = false
joins_last (Some before) p = joins before p

-- what is kept after the clean packet p, which ends one segment and has another open behind it
abbrev pub taken : ℕ → List ℕ → Option (List ℕ) → Option (List ℕ) → Assembly
taken pid p closing open_now = record {
  pid = pid;
  before = Some p;
  ready = sections_of_open closing ++ sections_of_open open_now;
  open_now = left_of_open open_now;
}

-- what is kept after the packet p, where all sections before it were given
unfoldable pub after_packet : Assembly → List ℕ → Assembly
after_packet a p =
    if not (is_usable a.pid p) || repeats_last a.before p then a
    else if not (joins_last a.before p) then taken a.pid p None (opened p)
    else if unit_start p then taken a.pid p (longer a.open_now (pointed p)) (opened p)
    else taken a.pid p None (longer a.open_now (carried p))

-- what is kept after these packets, where each section was given before the next packet came
unfoldable pub kept : ℕ → List (List ℕ) → Assembly
kept pid packets = fold (λ a p. all_given (after_packet a p)) (cleared pid) packets

-- how many bytes there are, where there are any
abbrev pub length_of : Option (List ℕ) → ℕ
length_of None = 0
length_of (Some s) = length s

-- the bytes of the sections that are ready, and those behind them: a number that
-- each section given takes its length from
abbrev pub bytes_kept : Assembly → ℕ
bytes_kept a = sum_by length a.ready + length_of a.open_now

-- the sections of these runs
abbrev pub sections_of_runs : List (List (List ℕ)) → List (List ℕ)
sections_of_runs rs = flat_map sections_of_run rs

-- the sections of these runs after the packet `before`, with this segment open
abbrev pub sections_behind : List ℕ → Option (List ℕ) → List (List (List ℕ)) → List (List ℕ)
sections_behind before open_now [] = sections_of_open open_now
sections_behind before open_now ([] ∷ rs) = sections_of_open open_now ++ sections_of_runs rs
sections_behind before open_now ((p ∷ run) ∷ rs) =
    if joins before p
    then sections_of_open (longer open_now (rest_of_segment (p ∷ run)))
    ++ (sections_of_run (p ∷ run) ++ sections_of_runs rs)
    else sections_of_open open_now ++ (sections_of_run (p ∷ run) ++ sections_of_runs rs)

-- the sections of these clean packets after the packet before, if there was one
abbrev pub sections_from : Option (List ℕ) → Option (List ℕ) → List (List ℕ) → List (List ℕ)
sections_from None open_now clean = sections_of_runs (runs clean)
sections_from (Some before) open_now clean = sections_behind before open_now (runs clean)

-- the sections that are still to come, if these packets come next
abbrev pub sections_to_come : Assembly → List (List ℕ) → List (List ℕ)
sections_to_come a packets =
    a.ready ++ sections_from a.before a.open_now (without_repeats_after a.before (filter (is_usable a.pid) packets))

-- An assembler that keeps `a` was pushed these packets since it was cleared, and has given these sections:
-- with those that are ready they are the sections of the packets; and, whatever packets come next, the sections of all
-- are those given and those still to come.
pub record Assembled (packets : List (List ℕ)) (given : List (List ℕ)) (a : Assembly) : Type 0 where
  pub so_far : sections packets a.pid ≡ given ++ a.ready
  pub goes_on : (more : List (List ℕ)) → sections (packets ++ more) a.pid ≡ given ++ sections_to_come a more
  pub settled : sections_of_open a.open_now ≡ []

-- A section is given, or none: what is left is without it, and stands for the packets with it among the sections given.
pub record Gave (old : Assembly) (section : Option (List ℕ)) (left : Assembly) : Type 0 where
  pub value : left ≡ without_first old
  pub drained : old.ready ≡ [] → left.ready ≡ []
  pub bytes : bytes_kept left + length_of section ≡ bytes_kept old
  pub stands : (packets given : List (List ℕ)) → Assembled packets given old
      → MatchOption section (Assembled packets given left) (λ s. Assembled packets (given ++ s ∷ []) left)
