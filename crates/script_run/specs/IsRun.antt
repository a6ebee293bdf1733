-- What it means that 33 histories are those of a run of a script over the packets of a stream.
use Rattle.std.specs.Prelude.{◌≡◌, ◌≢◌, ◌<◌, ◌≤◌, ◌+◌, ℕ, zero, suc, List, [], ◌∷◌, length, map, filter, sum, take, nat_eq, slice_get, Some, None, Option, All}
use Rattle.script_run.specs.Imports.{Act, Batches, DEMUX_NODES, Dvr, End as EndAct, Event, Frontend, IsLegalFor, LogEntry, NoMemory, Response, Scripted, Sources, act_of, call_of, clients_in, filled, next_event, passing, played, plays_of, rules_at}

-- ------ the feeder

-- a batch: how many packets it has, and the moment at which it passes
pub record Batch : Type 0 where
  pub size : ℕ
  pub moment : ℕ

-- a call with the number that it has among its caller's
pub record Step : Type 0 where
  pub step : ℕ
  pub act : Act

-- what the feeder does on each node: the batches pass, one after another, and then End
abbrev pub feeding : (first step : ℕ) → List Batch → List Step
feeding first step [] = record { step = step; act = EndAct } ∷ []
feeding first step (b ∷ bs) =
    record { step = step; act = passing Frontend first b.size b.moment } ∷ feeding (first + b.size) (suc step) bs

-- the calls of a caller on a node, in the order of the node's history
abbrev pub steps_of : (who : ℕ) → List LogEntry → List Step
steps_of who h = map (λ e. record { step = e.step; act = e.act }) (filter (λ e. nat_eq e.who who) h)

-- All packets pass every node in the same batches, each of 1 to `most` packets, and then End.
pub record IsFed (most packets : ℕ) (hs : List (List LogEntry)) : Type 0 where
  pub batches : List Batch
  pub each_size : All (λ b. (1 ≤ b.size) × (b.size ≤ most)) batches
  pub whole : sum (map (λ b. b.size) batches) ≡ packets
  pub on_each : (node : ℕ) (h : List LogEntry) → slice_get hs node ≡ Some h → steps_of 0 h ≡ feeding 0 0 batches

-- ------ a client

-- the entry stands in the histories, on its node and at its place
abbrev pub StandsIn : List (List LogEntry) → LogEntry → Type 0
StandsIn hs e = (h : List LogEntry) × (slice_get hs e.node ≡ Some h) × (slice_get h e.place ≡ Some e)

-- the entry is that event of a client that plays these batches, at some moment
abbrev pub IsEvent : Batches → Option Event → LogEntry → Type 0
IsEvent batches None e = ⊥
IsEvent batches (Some event) e = (e.node ≡ event.node)
    × ((moment : ℕ) × (e.act ≡ act_of (call_of batches event.want moment)))

-- the replies to these calls
abbrev pub replies : List LogEntry → List Response
replies made = map (λ e. e.response) made

-- calls of one caller, one after another: their steps are 0, 1, ..
abbrev pub InTurn : (who : ℕ) → (made : List LogEntry) → Type 0
InTurn who made = (i : ℕ) (e : LogEntry) → slice_get made i ≡ Some e → (e.step ≡ i) × (e.who ≡ who)

-- each is the call that the client's commands ask for after the replies before it
abbrev pub AreAsked : Scripted → (client : ℕ) → (made : List LogEntry) → Type 0
AreAsked script client made = (i : ℕ) (e : LogEntry) → slice_get made i ≡ Some e
    → IsEvent (plays_of client script) (next_event client script (replies (take i made))) e

-- on each node they stand in the order in which they were made
abbrev pub AreInOrder : (made : List LogEntry) → Type 0
AreInOrder made = (i j : ℕ) (e f : LogEntry) → i < j → slice_get made i ≡ Some e → slice_get made j ≡ Some f
    → e.node ≡ f.node → e.place < f.place

-- These are a client's calls in the histories, so far: it did just what its commands ask, by the replies that it got.
pub record AreCalls (script : Scripted) (client : ℕ) (hs : List (List LogEntry)) (made : List LogEntry) : Type 0 where
  -- its steps are 0, 1, .., and each is the call that its commands ask for after the replies before it
  pub steps : InTurn (client + 1) made
  pub events : AreAsked script client made
  -- each stands in the histories, on its node and at its place
  pub stands : (i : ℕ) (e : LogEntry) → slice_get made i ≡ Some e → StandsIn hs e
  -- the histories have no other call of this client
  pub only : (node place : ℕ) (h : List LogEntry) (e : LogEntry) → slice_get hs node ≡ Some h
      → slice_get h place ≡ Some e → e.who ≡ client + 1 → slice_get made e.step ≡ Some e
  -- on each node its calls stand in the order in which it made them
  pub in_order : AreInOrder made

-- A client did just what its commands ask, by the replies that it got, to their
-- end: `made` is its calls in their order.
pub record HasDone (script : Scripted) (client : ℕ) (hs : List (List LogEntry)) : Type 0 where
  pub made : List LogEntry
  pub calls : AreCalls script client hs made
  -- after all of them the commands are through
  pub ends : next_event client script (replies made) ≡ None

-- ------ the run

-- the packets of which a caller's passes bring some: those of the stream, for the front end, and those that a client plays, for
-- the dvr
abbrev pub sources : Scripted → (stream : List (List ℕ)) → Sources
sources script stream who Frontend = stream
sources script stream zero Dvr = []
sources script stream (suc client) Dvr = played client script

-- each entry stands on its node and at its place, its caller is the feeder or a client, and memory was found
abbrev pub ArePlaced : Scripted → List (List LogEntry) → Type 0
ArePlaced script hs =
    (node place : ℕ) (h : List LogEntry) (e : LogEntry) → slice_get hs node ≡ Some h → slice_get h place ≡ Some e
    → (e.node ≡ node) × (e.place ≡ place) × (e.who ≤ clients_in script) × (e.response ≢ NoMemory)

-- These histories are those of a run of the script: `most` is the greatest number of packets of the stream's batches, and
-- `stream` is the packets of the stream.
pub record IsRun (script : Scripted) (most : ℕ) (stream : List (List ℕ)) (hs : List (List LogEntry)) : Type 0 where
  pub nodes : length hs ≡ DEMUX_NODES + 1
  pub places : ArePlaced script hs
  -- each response is the one that the entries before it give
  pub legal : (node : ℕ) (h : List LogEntry) → slice_get hs node ≡ Some h
      → IsLegalFor (rules_at node) (filled (sources script stream) h)
  pub fed : IsFed most (length stream) hs
  pub clients_done : (c : ℕ) → c < clients_in script → HasDone script c hs
