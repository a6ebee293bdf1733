-- How the lines of a script bring the code and the run further.
use Rattle.std.specs.Prelude.{◌^◌, ◌≡◌, ℕ, ◌≤◌, ◌<◌, List, ◌∷◌, length, drop, sum_by, slice_index_or, All}
use Rattle.serial_core.specs.Imports.{Core, IsAfter, Line, Scripted, clients_of, most_bytes}
use Rattle.serial_core.specs.SerialRun.{Run, replies_of, finished, AreDone}
use Rattle.serial_core.specs.declared.runner.Runner.{Runner}
use Rattle.serial_core.specs.Budget.{IsOnTheWay}
use Rattle.serial_core.specs.Inside.Moving.{MadeAtMost}

-- each core stands after the replies of its client
abbrev pub AreAfter : Scripted → Run → List Core → Type 0
AreAfter script r cores =
    (c : ℕ) (d : Core) → c < length cores → IsAfter c script (replies_of c r) (slice_index_or cores c d)

-- how many calls they have made
abbrev pub calls_by : List Core → ℕ
calls_by cores = sum_by (λ core. core.step) cores

-- none has made more calls than a client may
abbrev pub AreInBudget : List Core → Type 0
AreInBudget cores = All (λ core. core.step ≤ 2 ^ 39) cores

-- What holds before the first of these lines: no time has gone by, each client that a line
-- names has a core, and few calls were made.
pub record MayBegin (lines : List Line) (cores : List Core) (v : Runner) : Type 0 where
  pub moment : v.moment ≡ 0
  pub short : length lines ≤ most_bytes
  pub clients : length cores ≤ 8
  pub named : All (λ line. clients_of line ≤ length cores) lines
  pub calls : AreInBudget cores
  pub made : MadeAtMost v (calls_by cores)

-- The run has come from `first` by lines: what those behind them do, all of them do.
pub record ComesByLines (script : Scripted) (batch : ℕ) (behind all : List Line) (first now : Run)
    (cores : List Core) : Type 0 where
  pub clients : length now.replies ≡ 8
  pub after : AreAfter script now cores
  pub way : (t : Run) → IsOnTheWay script batch behind now t → IsOnTheWay script batch all first t
  pub done : (t : Run) → AreDone script batch behind now t → AreDone script batch all first t

-- this line is done
abbrev pub IsLineBy : (batch : ℕ) (line : Line) (old new : List Core) → Run → Run → Type 0
IsLineBy batch line old new r s =
    (script : Scripted) (rest : List Line) → length r.replies ≡ 8 → AreAfter script r old
    → ComesByLines script batch rest (line ∷ rest) r s new

-- the first so many lines are done
abbrev pub IsFrontBy : (batch : ℕ) (lines : List Line) (count : ℕ) (old new : List Core) → Run → Run → Type 0
IsFrontBy batch lines count old new r s =
    (script : Scripted) → length r.replies ≡ 8 → AreAfter script r old
    → ComesByLines script batch (drop count lines) lines r s new

-- on the way through these lines a client has made as many calls as it may
pub record Overruns (script : Scripted) (batch : ℕ) (all : List Line) (first now : Run) : Type 0 where
  pub client : ℕ
  pub calls : 2 ^ 39 ≤ length (replies_of client now)
  pub way : IsOnTheWay script batch all first now

abbrev pub OverrunsBy : (batch : ℕ) (line : Line) → List Core → Run → Run → Type 0
OverrunsBy batch line old r s =
    (script : Scripted) (rest : List Line) → length r.replies ≡ 8 → AreAfter script r old
    → Overruns script batch (line ∷ rest) r s

abbrev pub AllOverrunBy : (batch : ℕ) (lines : List Line) → List Core → Run → Run → Type 0
AllOverrunBy batch lines old r s =
    (script : Scripted) → length r.replies ≡ 8 → AreAfter script r old → Overruns script batch lines r s

-- All lines are done, and the rest of the stream has passed.
pub record IsWhole (script : Scripted) (batch : ℕ) (lines : List Line) (r s : Run) (cores : List Core) : Type 0 where
  pub before : Run
  pub done : AreDone script batch lines r before
  pub ends : s ≡ finished batch before
  pub after : AreAfter script s cores

abbrev pub IsWholeBy : (batch : ℕ) (lines : List Line) (old new : List Core) → Run → Run → Type 0
IsWholeBy batch lines old new r s =
    (script : Scripted) → length r.replies ≡ 8 → AreAfter script r old → IsWhole script batch lines r s new
