-- Seats that have served their lines and handed their calls over to journals.
use Rattle.std.specs.Prelude.{◌≡◌, ◌<◌, ◌≤◌, ℕ, Bool, List, [], length, slice_index_or}
use Rattle.seats.specs.Imports.{DEMUX_NODES, LogEntry, Outcome, SinkEnd, SourceEnd, TableId}
use Rattle.seats.specs.declared.journal.JournalLine.{JournalLine}
use Rattle.seats.specs.declared.run.Desk.{Desk}
use Rattle.seats.specs.declared.seat.Seat.{Seat}
use Rattle.seats.specs.Calls.{MakesCalls}
use Rattle.seats.specs.Holding.{HasLeft}
use Rattle.seats.specs.Seated.{AreOnNodes, IsFit}
use Rattle.seats.specs.Turns.{HasAnsweredAll}

-- each of these has served its line, as this relates what it was to what it is
pub record HaveSat {D : Type 0} (sat : D → D → Type 0) (old new : List D) : Type 0 where
  pub long : length new ≡ length old
  pub each : (i : ℕ) (d : D) → i < length old → sat (slice_index_or old i d) (slice_index_or new i d)

-- A line tells what is left of it to be read, and what was written to it; or it tells none of these. A journal says whether it
-- was given these calls, and what became of these commands, and no others, between one state and another.
module _ {T J : Type 0} (source : T → SourceEnd) (sink : T → SinkEnd) (may : ℕ → Bool) (behind : SourceEnd → ℕ → Bool)
    (took : List LogEntry → List Outcome → J → J → Type 0) where
  -- A seat has served its line: its client has made just these calls, which are those that the requests of the line ask for and
  -- those by which all nodes were closed; its journal was given just them, and what became of the commands that they spell; and
  -- behind them it owns no node.
  pub record HasServed (locks : List TableId) (before after : JournalLine T J) (old new : Seat) : Type 0 where
    pub fit : IsFit locks new
    pub calls : List LogEntry
    pub made : MakesCalls 0 old.client calls new.client
    pub nodes : AreOnNodes calls
    pub told : List Outcome
    pub answers : HasAnsweredAll source sink may behind before.line after.line old.client new.client [] calls [] told
    pub given : took calls told before.journal after.journal
    pub left : (node : ℕ) → node ≤ DEMUX_NODES → HasLeft node new.client

  -- each of the seats has served its line
  abbrev pub HaveServed : List TableId → (old new : List (Desk (JournalLine T J))) → Type 0
  HaveServed locks old new = HaveSat (λ a b. HasServed locks a.line b.line a.seat b.seat) old new
