-- What the merged histories tell: just what the feeder and the clients have called, as the locks have it.
use Rattle.std.specs.Prelude.{◌≡◌, ◌⊎◌, ◌+◌, ℕ, suc, Bool, true, false, if◌then◌else◌, List, [], ◌∷◌, ◌++◌, length, map, slice_get, Some, All}
use Rattle.workers.specs.Imports.{Act, Caller, DEMUX_NODES, Entry, Fed, Frontend, IsHistory, IsLegalAt, LogEntry, Outcome, Scripted, Sources, StandsIn, Step, TableId, View, column, ended, feeder_acts, feeder_entry, filled_entry, rows_of, sources, steps_of}
use Rattle.workers.specs.Logged.{BringFrom, IsLogged}
use Rattle.workers.specs.Feeding.{HasMade, fed_entries}
use Rattle.workers.specs.Left.{AreWorked}

-- ------ what was called

-- A client has made just the calls of this log, each at the place and with the reply that it was told (IsLogged); the
-- packets that it brings are of these.
pub record HasLogged (packets : Sources) (client : ℕ) (c : Caller) (log : List LogEntry) : Type 0 where
  pub who : c.who ≡ client + 1
  pub logged : IsLogged c log
  pub brought : BringFrom (packets c.who) c log

-- the entry is one of a client's log
abbrev pub IsLoggedIn : List (List LogEntry) → LogEntry → Type 0
IsLoggedIn books e =
    (c : ℕ) × (log : List LogEntry) × (i : ℕ) × (slice_get books c ≡ Some log) × (slice_get log i ≡ Some e)

-- The feeder has passed these batches of its packets through the nodes that are among these, and then the end, and has
-- made no other call; each client has made just the calls of its log, all of them on such nodes.
pub record HaveCalled (among : ℕ → Bool) (packets : Sources) (feeder : Caller) (feeding : List Fed)
    (clients : List Caller) (books : List (List LogEntry)) : Type 0 where
  pub fed : (node : ℕ) (p : TableId × View Entry) → slice_get feeder.passes node ≡ Some p
      → HasMade (if among node then fed_entries (packets 0 Frontend) feeding ++ ended ∷ [] else []) p
  pub logs : length books ≡ length clients
  pub each : (c : ℕ) (client : Caller) (log : List LogEntry) → slice_get clients c ≡ Some client
      → slice_get books c ≡ Some log → HasLogged packets c client log
  pub named : (e : LogEntry) → IsLoggedIn books e → among e.node ≡ true

-- What the threads of a run of a script leave was called so.
abbrev pub WorkersHaveCalled : Type 0
WorkersHaveCalled =
    (script : Scripted) (among : ℕ → Bool) (most : ℕ) (may : ℕ → Bool) (stream : List (List ℕ)) (feeder : Caller)
    (feeding : List Fed) (clients : List Caller) (books : List (List LogEntry)) (told : List (List Outcome))
    → AreWorked script among most may stream feeder feeding clients books told
    → HaveCalled among (sources script stream) feeder feeding clients books

-- ------ what is told

-- these calls with the numbers that they have among their caller's, from this one on
abbrev pub steps_from : (step : ℕ) → List Act → List Step
steps_from step [] = []
steps_from step (a ∷ acts) = record { step = step; act = a } ∷ steps_from (suc step) acts

-- the history of a node's lock, of which these are all passes: there is no other
abbrev pub IsTheHistory : (node : ℕ) → (passes : List (TableId × View Entry)) → List Entry → Type 0
IsTheHistory node passes h =
    IsHistory node passes h × ((other : List Entry) → IsHistory node passes other → other ≡ h)

-- The histories tell what these callers have called, and nothing else; and what the nodes that nobody has called would have
-- answered to the feeder.
pub record TellWhatWasCalled (among : ℕ → Bool) (packets : Sources) (feeder : Caller) (feeding : List Fed)
    (clients : List Caller) (books : List (List LogEntry)) (hs : List (List LogEntry)) : Type 0 where
  -- there is a list for each of the 33 nodes
  pub nodes : length hs ≡ DEMUX_NODES + 1
  -- each call that a client has logged stands in them as it was logged: on its node, at its place, with its reply
  pub logged : (e : LogEntry) → IsLoggedIn books e → StandsIn hs e
  -- any other entry is one of the feeder's, of this node and this place, and is answered Passed
  pub others : (node place : ℕ) (h : List LogEntry) (e : LogEntry) → slice_get hs node ≡ Some h
      → slice_get h place ≡ Some e → IsLoggedIn books e ⊎ (e ≡ feeder_entry node place e.step e.act)
  -- the feeder's calls on each node are that its batches pass, one after another, and then End
  pub fed : (node : ℕ) (h : List LogEntry) → slice_get hs node ≡ Some h
      → steps_of 0 h ≡ steps_from 0 (feeder_acts feeding)
  -- the list of each node that is among these, with the packets that were brought, is the history of its lock, entry by entry
  pub locks : (node : ℕ) (h : List LogEntry) → slice_get hs node ≡ Some h → among node ≡ true
      → IsTheHistory node (column node (rows_of (clients ++ feeder ∷ []))) (map (filled_entry packets) h)
  -- the lock of another node has had no call of anybody; its list is legal, and has the feeder's calls alone
  pub idle : (node : ℕ) (h : List LogEntry) → slice_get hs node ≡ Some h → among node ≡ false
      → IsTheHistory node (column node (rows_of (clients ++ feeder ∷ []))) []
      × IsLegalAt node (map (filled_entry packets) h) × All (λ e. e.who ≡ 0) h
