-- What holds of a serial run as a whole (this project's own).
use Rattle.std.specs.Prelude.{ℕ, ◌≡◌, ◌<◌, ◌≤◌, List, slice_get, Some, All}
use Rattle.serial_core.specs.Imports.{IsAccounted, IsInRange, IsPacket, IsRun, LogEntry, Scripted, clients_in, filled, replies, rules_at, sources}
use Rattle.serial_core.specs.Left.{histories_in}
use Rattle.serial_core.specs.SerialRun.{Run, replies_of, IsSerialRun}

-- The histories of the nodes are those of a run of the script, and each is accounted. A client's replies are
-- those that its calls in the histories got.
pub record IsAccountedRun (script : Scripted) (batch : ℕ) (packets : List (List ℕ)) (r : Run) : Type 0 where
  pub run : IsRun script batch packets (histories_in r)
  pub replies : (client : ℕ) (is : client < clients_in script)
      → replies (run.clients_done client is).made ≡ replies_of client r
  pub accounted : (node : ℕ) (h : List LogEntry) → slice_get (histories_in r) node ≡ Some h
      → IsAccounted (rules_at node) (filled (sources script packets) h)

-- The serial run of a script is a run of it, where a batch has at least one packet.
abbrev pub SerialRunsAreRuns : Type 0
SerialRunsAreRuns = (script : Scripted) (batch : ℕ) (packets : List (List ℕ)) (r : Run) → All IsInRange script.lines
    → 1 ≤ batch → IsSerialRun script batch packets r → IsAccountedRun script batch packets r

-- A script and a stream have a serial run, where a batch has at least one packet: each command ends.
abbrev pub HaveSerialRuns : Type 0
HaveSerialRuns = (script : Scripted) (batch : ℕ) (packets : List (List ℕ)) → All IsInRange script.lines
    → All IsPacket packets
    → 1 ≤ batch → (r : Run) × IsSerialRun script batch packets r
