-- The requests of a line, one after another, and how each is answered.
use Rattle.std.specs.Prelude.{◌≡◌, ◌++◌, ◌∷◌, [], ◌+◌, ℕ, Bool, true, false, IsTrue, List, length}
use Rattle.seats.specs.Imports.{Caller, DEMUX_NODES, LogEntry, Outcome, SinkEnd, SourceEnd, flat_map}
use Rattle.seats.specs.Asks.{ask_of}
use Rattle.seats.specs.declared.serve_frames.ask.Ask.TheVariants.{Leave}
use Rattle.seats.specs.declared.serve_frames.numbers.TheConstants.{REQUEST_LEN}
use Rattle.seats.specs.declared.serve_frames.tell.Tell.{Tell}
use Rattle.seats.specs.Answered.{IsAnswered, AreClosings}
use Rattle.seats.specs.Calls.{MakesCalls}
use Rattle.seats.specs.Holding.{GivesBack, GivesBackMarked}
use Rattle.seats.specs.Line.{Takes, RunsOut, Writes, BreaksOff}
use Rattle.seats.specs.declared.seat.Seat.{Seat}
use Rattle.seats.specs.Seated.{calls_made, commands_done, log_of}
use Rattle.seats.specs.Spelled.{DoneCommand, calls_in, AreKept}
use Rattle.seats.specs.Told.{reply_bytes}

-- a request, the moment, the commands that were done for it, what was told, and the bytes that were read
pub record Turn : Type 0 where
  pub request : List ℕ
  pub now : ℕ
  pub commands : List DoneCommand
  pub told : Tell
  pub bytes : List ℕ

-- a whole request, and it is answered, at a moment that the clock may give
pub record IsTurn (may : ℕ → Bool) (t : Turn) : Type 0 where
  pub long : length t.request ≡ REQUEST_LEN
  pub moment : IsTrue (may t.now)
  pub is : IsAnswered (ask_of t.request) t.now t.commands t.told t.bytes

-- a request to leave
abbrev pub IsLeaving : Turn → Type 0
IsLeaving t = ask_of t.request ≡ Leave

-- the commands of these turns, one after another
abbrev pub spelled_by : List Turn → List DoneCommand
spelled_by turns = flat_map (λ t. t.commands) turns

-- and their calls
abbrev pub calls_of : List Turn → List LogEntry
calls_of turns = calls_in (spelled_by turns)

-- and then the commands by which all nodes are closed
abbrev pub spelled : List Turn → (leaving : List DoneCommand) → List DoneCommand
spelled turns leaving = spelled_by turns ++ leaving

-- A caller makes the calls of these turns, one after another and behind those calls, and is d then. By each request to leave it
-- gives back what it has.
abbrev pub MakesTurns : (before : List LogEntry) → Caller → List Turn → Caller → Type 0
MakesTurns before c [] d = d ≡ c
MakesTurns before c (t ∷ ts) d =
    (m : Caller) × MakesCalls (length before) c (calls_in t.commands) m
    × (IsLeaving t → GivesBack before (calls_in t.commands) m)
    × MakesTurns (before ++ calls_in t.commands) m ts d

-- The client of a seat makes the calls of this turn, and is d then. By a request to leave it gives back what it has, by the nodes
-- that the seat has marked as held.
pub record MakesTurn (s : Seat) (t : Turn) (d : Caller) : Type 0 where
  pub made : MakesCalls (calls_made s) s.client (calls_in t.commands) d
  pub gone : IsLeaving t → GivesBackMarked s.held (log_of s) (calls_in t.commands) d

-- the same of the last turn of a line, if there is one
abbrev pub MakesLast : Seat → List Turn → Caller → Type 0
MakesLast s [] d = d ≡ s.client
MakesLast s (t ∷ []) d = MakesTurn s t d
MakesLast s (t ∷ u ∷ ts) d = ⊥

module _ {T : Type 0} (source : T → SourceEnd) (sink : T → SinkEnd) (may : ℕ → Bool) (behind : SourceEnd → ℕ → Bool) where
  -- the request is taken from the line
  pub record IsAsked (t : Turn) (before asked : T) : Type 0 where
    pub turn : IsTurn may t
    pub taken : Takes (source before) (source asked) t.request
    -- and the clock was read behind it
    pub clock : IsTrue (behind (source asked) t.now)

  -- and its reply is written to it, whole
  pub record IsTold (t : Turn) (before after : T) : Type 0 where
    pub asked : T
    pub is : IsAsked t before asked
    pub told : Writes (sink asked) (sink after) (reply_bytes t.told t.bytes)

  -- or a write fails before it is written whole
  pub record IsCutOff (t : Turn) (before after : T) : Type 0 where
    pub asked : T
    pub is : IsAsked t before asked
    pub told : BreaksOff (sink asked) (sink after) (reply_bytes t.told t.bytes)

  -- each of these, one after another
  abbrev pub AreTold : T → List Turn → T → Type 0
  AreTold line [] after = after ≡ line
  AreTold line (t ∷ ts) after = (next : T) × IsTold t line next × AreTold next ts after

  -- None, since less than a request is left of the line, or a read fails; or one, whose reply couldn't be written whole.
  abbrev pub IsLast : T → List Turn → T → Type 0
  IsLast line [] end = RunsOut REQUEST_LEN (source line) (source end)
  IsLast line (t ∷ []) end = IsCutOff t line end
  IsLast line (t ∷ u ∷ ts) end = ⊥

  -- The next request is answered: by these calls, which the client makes, the seat's log has grown, and what is told of commands
  -- by those that it spells. Where that is the end, no request was read, or the reply wasn't written whole.
  abbrev pub HasTurned : (on : Bool) → (before after : T) → (old new : Seat) → Type 0
  HasTurned true before after old new =
      (t : Turn) × IsTold t before after × (log_of new ≡ log_of old ++ calls_in t.commands)
      × AreKept (commands_done old) (calls_made old) t.commands old.outcomes.items new.outcomes.items
      × MakesTurn old t new.client
  HasTurned false before after old new =
      (ts : List Turn) × IsLast before ts after × (log_of new ≡ log_of old ++ calls_of ts)
      × AreKept (commands_done old) (calls_made old) (spelled_by ts) old.outcomes.items new.outcomes.items
      × MakesLast old ts new.client

  -- The requests of a line were answered, one after another, up to the line's end or the first read or write that fails, and then
  -- all nodes closed: by the calls for these, which the client makes, the log has grown, and what is told of commands by those
  -- that the requests spell. The line became this, and the client, which was c before, is d then.
  pub record HasAnsweredAll (line end : T) (c d : Caller) (old new : List LogEntry) (was now : List Outcome) : Type 0 where
    pub turns : List Turn
    pub after : T
    pub told : AreTold line turns after
    pub last : List Turn
    pub is : IsLast after last end
    pub leaving : List DoneCommand
    pub closed : AreClosings (DEMUX_NODES + 1) leaving
    pub log : new ≡ old ++ calls_in (spelled (turns ++ last) leaving)
    pub kept : AreKept (length was) (length old) (spelled (turns ++ last) leaving) was now
    -- by the calls behind its requests it gives back what it has, as by each request to leave
    pub then : Caller
    pub made : MakesTurns old c (turns ++ last) then
    pub leaves : MakesCalls (length (old ++ calls_of (turns ++ last))) then (calls_in leaving) d
    pub back : GivesBack (old ++ calls_of (turns ++ last)) (calls_in leaving) d
