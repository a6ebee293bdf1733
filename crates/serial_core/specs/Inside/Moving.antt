-- How the code goes on with the run, while the stream is pulled as it is wanted.
use Rattle.std.specs.Prelude.{◌≡◌, ◌≢◌, ℕ, ◌+◌, ◌-◌, ◌^◌, ◌≤◌, Bool, true, false, List, [], ◌++◌, length, None}
use Rattle.serial_core.specs.Imports.{Core, Draws, IsAfter, IsDone, Pulling, Pulls, Scripted, SourceEnd, next_of_line}
use Rattle.serial_core.specs.declared.runner.Runner.{Runner}
use Rattle.serial_core.specs.SerialRun.{Run, replies_of, IsWorked}
use Rattle.serial_core.specs.Budget.{IsBegun}
use Rattle.serial_core.specs.Inside.Standing.{IsNodes, AreCounted}

-- The code is where the run is, whatever is left of the stream.
pub record IsAt (v : Runner) (r : Run) : Type 0 where
  pub nodes : IsNodes v.nodes r
  pub first : v.puller.given ≡ r.first
  pub moment : v.moment ≡ r.moment

-- ------ numbers

abbrev pub one_if : Bool → ℕ
one_if true = 1
one_if false = 0

-- the feeder has a turn for each packet at most, and one for End
abbrev pub turns_of : Runner → ℕ
turns_of v = v.puller.given + one_if v.nodes.has_ended

-- No node has more entries than calls were made, so many packets aren't given, and End has passed
-- only where the puller has nothing more.
pub record IsSound (v : Runner) : Type 0 where
  pub ended : v.nodes.has_ended ≡ true → IsDone v.puller
  pub counted : AreCounted v.nodes
  pub given : v.puller.given ≤ 2 ^ 41

-- ------ going on

-- The code and the run go on together: the packets that were pulled are those that the run has in front, whatever comes
-- behind them. Behind the last packet of a puller that is done comes nothing, and the numbers are sound.
pub record Moves (before after : SourceEnd) (old new : Runner) (goes : Run → Run → Type 0) : Type 0 where
  pub packets : List (List ℕ)
  pub draws : Draws before after old.puller new.puller packets
  pub at : (ahead taken : List ℕ) (given later : List (List ℕ)) (r : Run) → Pulls ahead taken given old.puller
      → (IsDone new.puller → later ≡ [])
      → IsAt old r → r.left ≡ packets ++ later → (s : Run) × goes r s × IsAt new s × (s.left ≡ later)
  pub done : (ahead taken : List ℕ) (given : List (List ℕ)) → Pulls ahead taken given old.puller → IsDone old.puller
      → IsDone new.puller × (packets ≡ [])
  pub sound : IsSound new

-- what stops on its way has given so many packets, with the bytes that the source gave for them
abbrev pub HasDrawn : (before after : SourceEnd) → (old new : Pulling) → Type 0
HasDrawn before after old new = (packets : List (List ℕ)) × Draws before after old new packets

-- What holds whenever the feeder may have a turn: a batch has 1 to 64 packets, and the numbers are sound.
pub record IsReady (batch : ℕ) (v : Runner) : Type 0 where
  pub some : 1 ≤ batch
  pub few : batch ≤ 64
  pub sound : IsSound v

-- at most so many calls were made beside the feeder's turns
abbrev pub MadeAtMost : Runner → (calls : ℕ) → Type 0
MadeAtMost v calls = v.nodes.made ≤ turns_of v + calls

-- ------ commands

-- The run has come from `first` by calls of this command, and the core stands after the client's replies.
pub record ComesByCalls (script : Scripted) (batch client line : ℕ) (first now : Run) (core : Core) : Type 0 where
  pub after : IsAfter client script (replies_of client now) core
  pub clients : length now.replies ≡ 8
  pub others : (other : ℕ) → other ≢ client → replies_of other now ≡ replies_of other first
  pub worked : (s : Run) → IsWorked script batch client line now s → IsWorked script batch client line first s
  pub begun : IsBegun script batch client line first now

-- so it comes from each run after which the old core stood
abbrev pub ComesBy : (batch client line : ℕ) → (old new : Core) → Run → Run → Type 0
ComesBy batch client line old new r s =
    (script : Scripted) → length r.replies ≡ 8 → IsAfter client script (replies_of client r) old
    → ComesByCalls script batch client line r s new

-- and the command is through
abbrev pub IsDoneBy : (batch client line : ℕ) → (old new : Core) → Run → Run → Type 0
IsDoneBy batch client line old new r s =
    (script : Scripted) → length r.replies ≡ 8 → IsAfter client script (replies_of client r) old
    → ComesByCalls script batch client line r s new × (next_of_line client script line (replies_of client s) ≡ None)
