-- What is written of the report over what a run left.
use Rattle.std.specs.Prelude.{◌≡◌, ℕ, List, map}
use Rattle.emu_top.specs.Imports.{Keeps, Left, SinkEnd, report_of, told_head}
use Rattle.emu_top.specs.Serves.{HasWritten}
use Rattle.emu_top.specs.declared.status.Status.{Status}
use Rattle.emu_top.specs.declared.status.Status.TheVariants.{NoMemory}

-- the report over what a run left
abbrev pub report_over : Left → List ℕ
report_over left = report_of (told_head left.head) (map (λ those. those.items) left.outcomes.items) left.histories

-- What was written of it, by a status: nothing where memory was refused, and else what is written of a session's output.
abbrev pub HasReported : Left → (before after : SinkEnd) → Status → Type 0
HasReported left before after NoMemory = Keeps before.written after.written × (after.faults ≡ before.faults)
HasReported left before after status = HasWritten left.head.read_fault (report_over left) before after status
