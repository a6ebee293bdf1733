-- What a seat does: the calls by which its last calls have grown, and the commands that it has done by them.
use Rattle.std.specs.Prelude.{◌≡◌, ◌≤◌, ◌++◌, ◌∷◌, [], ℕ, true, nat_lt, if◌then◌else◌, List, map, slice_get, Option, Some, None}
use Rattle.seats.specs.Imports.{Act, Attach as AttachAct, DEMUX_NODES, Detach as DetachAct, Done, LogEntry, OutcomeKind, Response, TapChange, response_of}
use Rattle.dmx_calls.specs.declared.reply.Tap.TheVariants.{Keep as KeepTap, Attach as AttachTap, Detach as DetachTap}
use Rattle.seats.specs.declared.serve_frames.ask.Ask.{Ask}
use Rattle.seats.specs.declared.serve_frames.ask.Ask.TheVariants.{Leave}
use Rattle.seats.specs.declared.serve_frames.tell.Tell.{Tell}
use Rattle.seats.specs.declared.made.Made.{Made}
use Rattle.seats.specs.declared.seat.Seat.{Seat}
use Rattle.seats.specs.Answered.{IsAnswered}
use Rattle.seats.specs.Calls.{MakesCalls}
use Rattle.seats.specs.Holding.{HasLeft, AreMarked, CloseHeld, GivesBackMarked}
use Rattle.seats.specs.Seated.{calls_made, commands_done, log_of, told_made}
use Rattle.seats.specs.Spelled.{DoneCommand, calls_in, outcome_at, AreKept}

-- these were put behind its last calls, and its log is the same
pub record HasMade (more : List Made) (old new : Seat) : Type 0 where
  pub made : new.made.items ≡ old.made.items ++ more
  pub log : new.log.items ≡ old.log.items
  pub who : new.who ≡ old.who

-- ------ what a reply asks of the dvr node

-- the change of its tap of which the reply of a demux node tells
abbrev pub tap_by : (node : ℕ) → Response → TapChange
tap_by node (Done from to tap) = if nat_lt node DEMUX_NODES then tap else KeepTap
tap_by node _ = KeepTap

abbrev pub act_by_tap : (node : ℕ) → TapChange → Option Act
act_by_tap node KeepTap = None
act_by_tap node (AttachTap pids) = Some (AttachAct node pids)
act_by_tap node DetachTap = Some (DetachAct node)

-- It has made one call on a node, whose reply asks this of the dvr node.
pub record MakesOne (on : ℕ) (does : Act) (next : Option Act) (old new : Seat) : Type 0 where
  pub own : Made
  pub has : HasMade (own ∷ []) old new
  pub node : own.node ≡ on
  pub act : own.act ≡ does
  pub asks : next ≡ act_by_tap on (tap_by on (response_of own.reply))

-- these calls are just that one of the dvr node, if one is asked
abbrev pub IsBehind : Option Act → List LogEntry → Type 0
IsBehind None calls = calls ≡ []
IsBehind (Some act) calls = (e : LogEntry) × (calls ≡ e ∷ []) × (e.node ≡ DEMUX_NODES) × (e.act ≡ act)

-- It has made a call on a node, which stands in this place of its last calls, and behind it what the reply asks of the dvr node.
pub record DoesCommand (on : ℕ) (does : Act) (place : ℕ) (old new : Seat) : Type 0 where
  pub own : Made
  pub behind : List Made
  pub has : HasMade (own ∷ behind) old new
  pub at : slice_get new.made.items place ≡ Some own
  pub node : own.node ≡ on
  pub act : own.act ≡ does
  pub is : IsBehind (act_by_tap on (tap_by on (response_of own.reply))) (map (told_made old.who) behind)

-- ------ commands

-- what is told of its commands has grown by one, which was done by all calls since, and ended so
abbrev pub KeepsOne : OutcomeKind → (old new : Seat) → Type 0
KeepsOne kind old new =
    (new.handed ≡ old.handed)
    × (new.outcomes.items ≡ old.outcomes.items ++ outcome_at (commands_done old) (calls_made old) (calls_made new) kind ∷ [])

-- It has done commands of which this holds: its log has grown by their calls, and what is told of commands by what became of
-- them.
pub record HasDone (P : List DoneCommand → Type 0) (old new : Seat) : Type 0 where
  pub commands : List DoneCommand
  pub handed : new.handed ≡ old.handed
  pub log : log_of new ≡ log_of old ++ calls_in commands
  pub kept : AreKept (commands_done old) (calls_made old) commands old.outcomes.items new.outcomes.items
  pub is : P commands

-- ------ nodes

-- Each Close by which its log has grown is on a node that it held then, whatever calls come before those of the log: where it had
-- marked just the nodes that it held by all of them.
abbrev pub ClosesHeld : (old new : Seat) → Type 0
ClosesHeld old new =
    (gone calls : List LogEntry) → AreMarked (gone ++ log_of old) old.held → log_of new ≡ log_of old ++ calls
    → CloseHeld (gone ++ log_of old) calls

-- It has closed no node that it didn't hold, and owns none.
pub record HasGone (old new : Seat) : Type 0 where
  pub held : ClosesHeld old new
  pub left : (node : ℕ) → node ≤ DEMUX_NODES → HasLeft node new.client

-- It has marked no node as held that it hadn't marked before.
abbrev pub MarksNoMore : (old new : Seat) → Type 0
MarksNoMore old new = (node : ℕ) → slice_get new.held node ≡ Some true → slice_get old.held node ≡ Some true

-- ------ requests

-- A request is answered by commands, whose calls its client has made. By a request to leave it gives back what it has.
pub record HasAnswered (ask : Ask) (now : ℕ) (old new : Seat) (t : Tell) (bytes : List ℕ) : Type 0 where
  pub done : HasDone (λ ds. IsAnswered ask now ds t bytes) old new
  pub made : MakesCalls (calls_made old) old.client (calls_in done.commands) new.client
  pub gone : ask ≡ Leave → GivesBackMarked old.held (log_of old) (calls_in done.commands) new.client
