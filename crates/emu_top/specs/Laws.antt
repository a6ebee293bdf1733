-- Laws of what is written.
use Rattle.std.specs.Prelude.{ℕ, ◌≤◌, Bool, false, List}
use Rattle.emu_top.specs.Imports.{IsReportOfRun, PacketSize, Scripted, cut, head_of}
use Rattle.emu_top.specs.Session.{IsSerialOutput, IsThreadOutput}

-- What is written for a session on one thread, all of which was read, is the report of a run of it: `check` answers `yes` to it.
abbrev pub SerialOutputsAreOfRuns : Type 0
SerialOutputsAreOfRuns =
    (batch : ℕ) (size : PacketSize) (script : Scripted) (stream text : List ℕ) → batch ≤ 64
    → IsSerialOutput batch size script stream false text
    → IsReportOfRun script (cut size stream).packets (head_of size stream false) text

-- the same by threads
abbrev pub ThreadOutputsAreOfRuns : Type 0
ThreadOutputsAreOfRuns =
    (batch : ℕ) (size : PacketSize) (may : ℕ → Bool) (script : Scripted) (stream text : List ℕ) → batch ≤ 64
    → IsThreadOutput batch size may script stream false text
    → IsReportOfRun script (cut size stream).packets (head_of size stream false) text
