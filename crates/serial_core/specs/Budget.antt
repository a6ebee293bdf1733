-- How many calls clients make in the serial run (this project's own).
use Rattle.std.specs.Prelude.{ℕ, ◌≡◌, ◌+◌, ◌≤◌, ◌*◌, List, ◌∷◌, ◌++◌, length, Some, All}
use Rattle.serial_core.specs.Imports.{AreNumbered, Command, Event, IsInRange, IsPacket, Line, Scripted, bytes_written, commands_of, most_calls, next_of_line, plays_of}
use Rattle.serial_core.specs.SerialRun.{Run, begun, replies_of, called, after_waiting, AreDone, IsSerialRun}

module _ (script : Scripted) (batch : ℕ) where
  -- some calls of a command are made
  pub data IsBegun (client line : ℕ) : Run → Run → Type 0 where
    no_call : (r : Run) → IsBegun client line r r
    one_call : (r s : Run) (e : Event) → next_of_line client script line (replies_of client r) ≡ Some e
        → IsBegun client line (called client (plays_of client script) e (after_waiting script batch client r)) s
        → IsBegun client line r s

  -- some calls of the next line are made, where it is a command
  abbrev pub AreBegun : List Line → Run → Run → Type 0
  AreBegun (Command line client target verb ∷ more) r s = IsBegun client line r s
  AreBegun _ r s = s ≡ r

  -- some of these lines are done, and of the next some calls are made
  abbrev pub IsOnTheWay : List Line → Run → Run → Type 0
  IsOnTheWay all first s =
      (before : List Line) × (more : List Line) × (before ++ more ≡ all) × (r : Run)
      × AreDone script batch before first r × AreBegun more r s

  -- A moment of the serial run: some lines are done, and of the next line some calls are made.
  abbrev pub IsMoment : (packets : List (List ℕ)) → Run → Type 0
  IsMoment packets s = IsOnTheWay script.lines (begun packets) s

-- At each moment of the serial run of a script's lines, and at its end, a client has made no more calls than its
-- commands, the bytes of the packets and those of all writes allow, where the lines of each client name its writes in their
-- order, each once, and a batch has at least one packet.
pub record IsWithinBudget : Type 0 where
  pub moments : (script : Scripted) (batch : ℕ) (packets : List (List ℕ)) (r : Run) → All IsInRange script.lines
      → AreNumbered script → 1 ≤ batch → All IsPacket packets → IsMoment script batch packets r
      → (client : ℕ) → length (replies_of client r)
      ≤ most_calls (length (commands_of client script)) (188 * length packets + bytes_written script)
  pub runs : (script : Scripted) (batch : ℕ) (packets : List (List ℕ)) (r : Run) → All IsInRange script.lines
      → AreNumbered script → 1 ≤ batch → All IsPacket packets → IsSerialRun script batch packets r
      → (client : ℕ) → length (replies_of client r)
      ≤ most_calls (length (commands_of client script)) (188 * length packets + bytes_written script)
