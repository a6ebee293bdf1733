-- What reads of a line take, and what writes to it give, where either may fail.
use Rattle.std.specs.Prelude.{◌≡◌, ◌+◌, ◌<◌, ◌⊎◌, ◌++◌, ℕ, List, length}
use Rattle.seats.specs.Imports.{Appends, Consumes, IsAtEnd, SinkEnd, SourceEnd}

-- these bytes were taken, and no read failed
pub record Takes (before after : SourceEnd) (bytes : List ℕ) : Type 0 where
  pub taken : Consumes before.left after.left bytes
  pub steady : after.faults ≡ before.faults

-- nothing is left and no read failed, or one did
abbrev pub HasStopped : (before after : SourceEnd) → Type 0
HasStopped before after = ((after.faults ≡ before.faults) × IsAtEnd after.left) ⊎ (after.faults ≡ before.faults + 1)

-- Fewer than so many bytes were taken, and behind them nothing is left, or a read failed.
pub record RunsOut (most : ℕ) (before after : SourceEnd) : Type 0 where
  pub bytes : List ℕ
  pub few : length bytes < most
  pub taken : Consumes before.left after.left bytes
  pub stopped : HasStopped before after

-- these bytes were written, and no write failed
pub record Writes (before after : SinkEnd) (bytes : List ℕ) : Type 0 where
  pub written : Appends before.written after.written bytes
  pub steady : after.faults ≡ before.faults

-- A write failed before all of these bytes were written: just those in front of it were.
pub record BreaksOff (before after : SinkEnd) (bytes : List ℕ) : Type 0 where
  pub front : List ℕ
  pub lost : List ℕ
  pub whole : bytes ≡ front ++ lost
  pub some : 0 < length lost
  pub written : Appends before.written after.written front
  pub failed : after.faults ≡ before.faults + 1
