-- The log of a client, and how it is tied to what its passes know. A history is the
-- list of a node's entries, the oldest first.
use Rattle.std.specs.Prelude.{◌≡◌, ◌≢◌, ◌<◌, ◌+◌, ℕ, suc, Bool, List, [], ◌∷◌, take, nat_eq, if◌then◌else◌, slice_get, Some, IsSome, All}
use Rattle.workers.specs.Imports.{AreAsked, AreInOrder, Caller, Entry, InTurn, Input, IsFrom, IsGiven, LogEntry, Scripted, TableId, View, act_of, get_elem?, replies, some, sources, waits_on}
use Rattle.dmx_calls.specs.Response.{NoMemory}

-- a log entry tells an entry of a history: the same caller, the same call and the same response
pub record Tells (e : LogEntry) (x : Entry) : Type 0 where
  pub who : e.who ≡ x.who
  pub act : e.act ≡ act_of x.invocation
  pub response : e.response ≡ x.response

-- it tells the entry at its place
abbrev pub TellsIn : List Entry → LogEntry → Type 0
TellsIn h e = (x : Entry) × (get_elem? h e.place ≡ some x) × Tells e x

-- the callers and places of the entries of one node
abbrev pub calls_on : (node : ℕ) → List LogEntry → List (ℕ × ℕ)
calls_on node [] = []
calls_on node (e ∷ es) = if nat_eq e.node node then (e.who, e.place) ∷ calls_on node es else calls_on node es

-- The log has just the calls of the caller's passes, each at the place that it was told, with the steps
-- 0, 1, ..; on each node the places rise.
pub record IsLogged (c : Caller) (log : List LogEntry) : Type 0 where
  pub mine : (node : ℕ) (p : TableId × View Entry) → slice_get c.passes node ≡ Some p → p.1.number ≡ c.who
  pub steps : InTurn c.who log
  pub tells : (i : ℕ) (e : LogEntry) → slice_get log i ≡ Some e
      → (p : TableId × View Entry) × (slice_get c.passes e.node ≡ Some p) × TellsIn p.1.seen e
  pub in_order : AreInOrder log
  pub just : (node : ℕ) (p : TableId × View Entry) → slice_get c.passes node ≡ Some p → p.1.own ≡ calls_on node log

-- the entry at its place brings packets of these, if it brings any
abbrev pub BringsIn : (packets : Input → List (List ℕ)) → List Entry → LogEntry → Type 0
BringsIn packets h e = (x : Entry) × (get_elem? h e.place ≡ some x) × IsFrom packets x.invocation

-- each call of the log brings packets of these, if it brings any
abbrev pub BringFrom : (packets : Input → List (List ℕ)) → Caller → List LogEntry → Type 0
BringFrom packets c log =
    (i : ℕ) (e : LogEntry) → slice_get log i ≡ Some e
    → (p : TableId × View Entry) × (slice_get c.passes e.node ≡ Some p) × BringsIn packets p.1.seen e

-- The calls so far of a client of a script: each is the one that its commands ask for after the replies before it, at a
-- moment that the clock may give, and memory was found.
pub record HasCalled (script : Scripted) (client : ℕ) (may : ℕ → Bool) (c : Caller) (log : List LogEntry) : Type 0 where
  pub who : c.who ≡ client + 1
  pub logged : IsLogged c log
  pub events : AreAsked script client log
  -- packets that it brings are those that the client plays, whatever the stream is
  pub brought : (stream : List (List ℕ)) → BringFrom (sources script stream (suc client)) c log
  pub found : All (λ e. e.response ≢ NoMemory) log
  pub moments : All (λ e. IsGiven may e.act) log
  -- where a read is repeated, another caller's entry stands between: it pays for the repeat
  pub paid : (i : ℕ) (e f : LogEntry) → slice_get log i ≡ Some e → slice_get log (i + 1) ≡ Some f
      → IsSome (waits_on client script (replies (take (i + 1) log))) → e.place + 1 < f.place
