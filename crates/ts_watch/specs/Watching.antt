-- What a watch keeps, and how that stands for the packets that it was shown.
use Rattle.std.specs.Prelude.{◌≡◌, ℕ, ◌+◌, ◌<◌, ◌≤◌, ◌==◌, ◌||◌, not, true, List, length, Option, Some, None, IfSome, if◌then◌else◌}
use Rattle.std.specs.List.{All, last_or, sum_by}
use Rattle.std.proofs.Common.{get_or}
use Rattle.ts_packet.specs.Fields.{error_bit, has_payload}
use Rattle.ts_packet.specs.Clean.{repeats, joins, clean}
use Rattle.ts_packet.specs.Counts.{counts}
use Rattle.ts_watch.specs.declared.seen.PidRow.{PidRow}
use Rattle.ts_watch.specs.declared.seen.Seen.{Seen}

-- The row of a PID: the counts of its packets among these.
abbrev pub row_of : List (List ℕ) → ℕ → PidRow
row_of packets pid = record {
  packets = (counts packets pid).packets;
  breaks = (counts packets pid).breaks;
  duplicates = (counts packets pid).duplicates;
  errors = (counts packets pid).errors;
}

-- how many packets were shown, the place of each PID's counts, and what is kept at the places
pub record Watching : Type 0 where
  pub watched : ℕ
  pub places : List (Option ℕ)
  pub seen : List Seen

-- what is kept of a PID of which no packet was shown
abbrev pub nothing : ℕ → Seen
nothing pid = record { pid = pid; row = record { packets = 0; breaks = 0; duplicates = 0; errors = 0 }; last = None }

-- what is kept at the place, if there is one
abbrev pub kept_at : List Seen → ℕ → Option ℕ → Seen
kept_at seen pid None = nothing pid
kept_at seen pid (Some place) = get_or seen place (nothing pid)

-- what is kept of a PID
abbrev pub kept : Watching → ℕ → Seen
kept w pid = kept_at w.seen pid (get_or w.places pid None)

-- the last clean packet that a watch compares with: none for null packets
abbrev pub last_of : List (List ℕ) → ℕ → Option (List ℕ)
last_of packets pid = if pid == 0x1fff then None else last_or None (clean packets pid)

-- what is kept of a PID after these packets
abbrev pub kept_of : List (List ℕ) → ℕ → Seen
kept_of packets pid = record { pid = pid; row = row_of packets pid; last = last_of packets pid }

-- The watch was shown these packets: of each PID it keeps their counts and the last clean one.
pub record Watched (packets : List (List ℕ)) (w : Watching) : Type 0 where
  pub count : w.watched ≡ length packets
  pub kept : (pid : ℕ) → pid < 8192 → kept w pid ≡ kept_of packets pid

-- one more in the row
abbrev pub one_packet : PidRow → PidRow
one_packet r = record { packets = r.packets + 1; breaks = r.breaks; duplicates = r.duplicates; errors = r.errors }

abbrev pub one_break : PidRow → PidRow
one_break r = record { packets = r.packets + 1; breaks = r.breaks + 1; duplicates = r.duplicates; errors = r.errors }

abbrev pub one_duplicate : PidRow → PidRow
one_duplicate r = record {
  packets = r.packets + 1;
  breaks = r.breaks;
  duplicates = r.duplicates + 1;
  errors = r.errors;
}

abbrev pub one_error : PidRow → PidRow
one_error r = record { packets = r.packets + 1; breaks = r.breaks; duplicates = r.duplicates; errors = r.errors + 1 }

-- the row after a clean packet or a duplicate, which the last clean packet is compared with
abbrev pub after_usable : Seen → Option (List ℕ) → List ℕ → Seen
after_usable s None p = record { pid = s.pid; row = one_packet s.row; last = Some p }
after_usable s (Some before) p =
    if repeats before p then record { pid = s.pid; row = one_duplicate s.row; last = s.last }
    else if joins before p then record { pid = s.pid; row = one_packet s.row; last = Some p }
    else record { pid = s.pid; row = one_break s.row; last = Some p }

-- what is kept of a PID after a packet of it
unfoldable pub after : Seen → List ℕ → Seen
after s p =
    if error_bit p then record { pid = s.pid; row = one_error s.row; last = s.last }
    else if (s.pid == 0x1fff) || not (has_payload p) then record { pid = s.pid; row = one_packet s.row; last = s.last }
    else after_usable s s.last p

-- What is true of what is kept of a PID: no count is above the number of packets,
-- and the last clean packet has a payload.
pub record IsSeen (s : Seen) : Type 0 where
  pub breaks : s.row.breaks ≤ s.row.packets
  pub duplicates : s.row.duplicates ≤ s.row.packets
  pub errors : s.row.errors ≤ s.row.packets
  pub last : IfSome s.last (λ p. has_payload p ≡ true)

-- how many places there are here
abbrev pub taken : Option ℕ → ℕ
taken None = 0
taken (Some place) = 1

-- What is true of each watch: no PID has more packets than were shown, each PID that has a place has its own, and there
-- are no other places.
pub record IsWatching (w : Watching) : Type 0 where
  pub size : length w.places ≡ 8192
  pub own : (pid place : ℕ) → get_or w.places pid None ≡ Some place
      → (place < length w.seen) × ((get_or w.seen place (nothing pid)).pid ≡ pid)
  pub all : sum_by taken w.places ≡ length w.seen
  pub few : All (λ s. s.row.packets ≤ w.watched) w.seen
  pub sound : All IsSeen w.seen
