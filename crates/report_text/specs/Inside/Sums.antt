-- Sums over nodes, as the code keeps them.
use Rattle.std.specs.Prelude.{ℕ, ◌≡◌, ◌≤◌, List, length, sum_by}
use Rattle.report_text.specs.Imports.{LogEntry}
use Rattle.report_text.specs.declared.sums.Sums.{Sums}
use Rattle.report_text.specs.Summary.{bytes_read, overflows}

-- the sums of these histories
abbrev pub AreSums : List (List LogEntry) → Sums → Type 0
AreSums histories s =
    (s.entries ≡ sum_by length histories) × (s.bytes ≡ sum_by bytes_read histories)
    × (s.overflows ≡ sum_by overflows histories)

-- none is above this number
abbrev pub AreAtMost : ℕ → Sums → Type 0
AreAtMost most s = (s.entries ≤ most) × (s.bytes ≤ most) × (s.overflows ≤ most)
