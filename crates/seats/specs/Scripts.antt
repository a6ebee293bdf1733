-- The requests of a line are the commands of a client of a script.
use Rattle.std.specs.Prelude.{◌≡◌, ◌+◌, ℕ, Bool, List, take, slice_get, Some, None, All}
use Rattle.seats.specs.Imports.{AreAsked, DEMUX_NODES, IsGiven, LogEntry, Outcome, Scripted, commands_of, next_event, outcomes, replies, waits_on}
use Rattle.seats.specs.Answered.{AreClosings}
use Rattle.seats.specs.Spelled.{DoneCommand, calls_in, commands_by, outcomes_by}
use Rattle.seats.specs.Turns.{Turn, IsTurn, spelled}

-- These calls are those that the commands of a client of a script ask for, one after another, by the replies to the calls before;
-- behind them its commands are through, and ended so.
pub record IsPlayed (may : ℕ → Bool) (client : ℕ) (script : Scripted) (calls : List LogEntry)
    (told : List Outcome) : Type 0 where
  pub events : AreAsked script client calls
  pub ends : next_event client script (replies calls) ≡ None
  pub outcomes : told ≡ outcomes client script (replies calls)
  -- the moments are those of the clock
  pub moments : (i : ℕ) (e : LogEntry) → slice_get calls i ≡ Some e → IsGiven may e.act
  -- no call is a read that is repeated
  pub once : (i : ℕ) (e : LogEntry) → slice_get calls (i + 1) ≡ Some e
      → waits_on client script (replies (take (i + 1) calls)) ≡ None

-- Where a client's commands are those that the turns of a line spell, with the close of each node behind them, the calls of the
-- turns, with those behind them, are the calls of the commands.
abbrev pub LinesArePlayed : Type 0
LinesArePlayed =
    (may : ℕ → Bool) (turns : List Turn) (leaving : List DoneCommand) → All (IsTurn may) turns
    → AreClosings (DEMUX_NODES + 1) leaving
    → (client : ℕ) (script : Scripted) → commands_of client script ≡ commands_by 0 (spelled turns leaving)
    → IsPlayed may client script (calls_in (spelled turns leaving)) (outcomes_by 0 0 (spelled turns leaving))
