-- A seat, and how what it keeps is tied to the calls that its client has made.
use Rattle.std.specs.Prelude.{◌≡◌, ◌≤◌, ◌+◌, ◌^◌, ℕ, false, true, List, [], ◌++◌, length, map, replicate, slice_get, Some, vec_capacity, All}
use Rattle.seats.specs.Imports.{Caller, DEMUX_NODES, Fits, LogEntry, TableId, response_of, told_entry}
use Rattle.seats.specs.Calls.{MakesCalls}
use Rattle.seats.specs.Holding.{AreMarked, KnowsItsNodes}
use Rattle.seats.specs.declared.made.Made.{Made}
use Rattle.seats.specs.declared.seat.Seat.{Seat}

-- a call of this caller, as one of a log
abbrev pub told_made : (who : ℕ) → Made → LogEntry
told_made who m = record {
  node = m.node;
  place = m.place;
  step = m.step;
  who = who;
  act = m.act;
  response = response_of m.reply;
}

-- its calls: those of its log, and the last ones
abbrev pub log_of : Seat → List LogEntry
log_of s = map told_entry s.log.items ++ map (told_made s.who) s.made.items

-- how many calls it has made: those that it has handed over, and those that it keeps
abbrev pub calls_made : Seat → ℕ
calls_made s = s.handed.calls + length (log_of s)

-- how many commands it has done
abbrev pub commands_done : Seat → ℕ
commands_done s = s.handed.commands + length s.outcomes.items

-- each call is on one of the 33 nodes
abbrev pub AreOnNodes : List LogEntry → Type 0
AreOnNodes calls = All (λ e. e.node ≤ DEMUX_NODES) calls

-- It has memory for so many calls more and as many commands, and so many calls are left.
pub record HasRoom (calls : ℕ) (s : Seat) : Type 0 where
  pub made : length s.made.items + calls ≤ vec_capacity s.made
  pub outcomes : length s.outcomes.items + calls ≤ vec_capacity s.outcomes
  pub left : calls ≤ s.client.left

-- Where it has marked a node as held, it has room for the calls that give back all that it may hold.
abbrev pub MayLeave : Seat → Type 0
MayLeave s = (node : ℕ) → node ≤ DEMUX_NODES → slice_get s.held node ≡ Some true → HasRoom 66 s

-- It has a pass of each of these locks, and each call that it keeps is on a node; so few calls are left that their numbers stay
-- below 2^40, and it has done no more commands than calls; it has left each node that it hasn't marked as held.
pub record IsFit (locks : List TableId) (s : Seat) : Type 0 where
  pub fits : Fits locks s.client.passes
  pub who : s.who ≡ s.client.who
  pub left : s.client.left + (s.handed.calls + (length s.log.items + length s.made.items)) ≤ 2 ^ 40
  pub done : s.handed.commands + length s.outcomes.items ≤ s.handed.calls + (length s.log.items + length s.made.items)
  pub nodes : AreOnNodes (log_of s)
  pub knows : KnowsItsNodes s.client s.held

-- It is fit, has marked just the nodes that it holds, and may leave.
pub record IsReady (locks : List TableId) (s : Seat) : Type 0 where
  pub fit : IsFit locks s
  pub marked : AreMarked (log_of s) s.held
  pub room : MayLeave s

-- It is the seat of this caller, and has done nothing yet.
pub record IsNew (number : ℕ) (s : Seat) : Type 0 where
  pub who : s.who ≡ number
  pub handed : (s.handed.calls ≡ 0) × (s.handed.commands ≡ 0)
  pub log : (s.log.items ≡ []) × (s.made.items ≡ [])
  pub outcomes : s.outcomes.items ≡ []
  pub room : (66 ≤ vec_capacity s.made) × (66 ≤ vec_capacity s.outcomes)
  pub held : s.held ≡ replicate (DEMUX_NODES + 1) false

-- It is ready, and has done nothing yet.
pub record IsReadyToHand (locks : List TableId) (s : Seat) : Type 0 where
  pub ready : IsReady locks s
  pub handed : (s.handed.calls ≡ 0) × (s.handed.commands ≡ 0)
  pub none : log_of s ≡ []
  pub told : s.outcomes.items ≡ []

-- They are ready seats of these clients, which have done nothing yet.
pub record AreReady (locks : List TableId) (clients : List Caller) (seats : List Seat) : Type 0 where
  pub are : map (λ s. s.client) seats ≡ clients
  pub each : (c : ℕ) (s : Seat) → slice_get seats c ≡ Some s → IsReadyToHand locks s

-- The log has grown by just the calls that the client has made, in their order. Whatever calls come before those of the log:
-- where just the nodes that are held behind all of them were marked, they are.
pub record GoesOn (old new : Seat) : Type 0 where
  pub calls : List LogEntry
  pub handed : new.handed ≡ old.handed
  pub log : log_of new ≡ log_of old ++ calls
  pub made : MakesCalls (calls_made old) old.client calls new.client
  pub marks : (gone : List LogEntry) → AreMarked (gone ++ log_of old) old.held → AreMarked (gone ++ log_of new) new.held
