-- The histories of the 33 nodes, made of what the feeder did, which is the same on
-- each node, and of the clients' entries.
use Rattle.std.specs.Prelude.{ℕ, suc, ◌≡◌, List, [], ◌∷◌, ◌++◌, map, nat_lt, if◌then◌else◌}
use Rattle.dmx_calls.specs.declared.histories.Fed.{Fed}
use Rattle.dmx_calls.specs.declared.log.Entry.{Entry as ToldEntry}
use Rattle.dmx_calls.specs.declared.params.Input.TheVariants.{Frontend}
use Rattle.dmx_calls.specs.Calls.{told_entry}
use Rattle.dmx_calls.specs.declared.call.Call.TheVariants.{End as EndAct}
use Rattle.dmx_calls.specs.Log.{Act, LogEntry, passing}
use Rattle.dmx_calls.specs.Response.{Passed}

-- ------ the feeder

-- a batch passes
abbrev pub pass_act : Fed → Act
pass_act fed = passing Frontend fed.first fed.count fed.now

-- what the feeder does on each node: each batch passes, and then the stream has ended
abbrev pub feeder_acts : List Fed → List Act
feeder_acts feeding = map pass_act feeding ++ EndAct ∷ []

-- a call of the feeder, which is caller 0; a Pass and End are always answered Passed
abbrev pub feeder_entry : (node place step : ℕ) → Act → LogEntry
feeder_entry node place step act = record {
  node = node;
  place = place;
  step = step;
  who = 0;
  act = act;
  response = Passed;
}

-- its calls one after another, from this place and this step on
abbrev pub feeder_entries : (node place step : ℕ) → List Act → List LogEntry
feeder_entries node place step [] = []
feeder_entries node place step (act ∷ acts) =
    feeder_entry node place step act ∷ feeder_entries node (suc place) (suc step) acts

-- ------ one node

-- The feeder's calls that stand before a client's entry: they go on as long as the place of the entry isn't reached.
-- Then the entry stands, and behind it what `later` makes of the calls that are left, from the next place on.
abbrev pub before_entry : (node : ℕ) → LogEntry → (later : (place step : ℕ) → List Act → List LogEntry)
    → (place step : ℕ) → List Act → List LogEntry
before_entry node e later place step [] = e ∷ later (suc place) step []
before_entry node e later place step (act ∷ acts) =
    if nat_lt place e.place then feeder_entry node place step act
    ∷ before_entry node e later (suc place) (suc step) acts
    else e ∷ later (suc place) step (act ∷ acts)

-- from this place and this step of the feeder on
abbrev pub woven_from : (node : ℕ) → (calls : List LogEntry) → (place step : ℕ) → (acts : List Act) → List LogEntry
woven_from node [] place step acts = feeder_entries node place step acts
woven_from node (e ∷ calls) place step acts = before_entry node e (woven_from node calls) place step acts

-- The history of a node, the oldest entry first: the clients' entries stand at their places, and the feeder's
-- calls, in their order, at all others.
abbrev pub woven : (node : ℕ) → (acts : List Act) → (calls : List LogEntry) → List LogEntry
woven node acts calls = woven_from node calls 0 0 acts

-- ------ all nodes

-- the histories of the nodes from this one on, by the clients' entries of each
abbrev pub woven_nodes : (node : ℕ) → (acts : List Act) → (calls : List (List LogEntry)) → List (List LogEntry)
woven_nodes node acts [] = []
woven_nodes node acts (calls ∷ more) = woven node acts calls ∷ woven_nodes (suc node) acts more

-- the same by what the code keeps
abbrev pub histories_of : List Fed → List (List ToldEntry) → List (List LogEntry)
histories_of feeding nodes = woven_nodes 0 (feeder_acts feeding) (map (λ calls. map told_entry calls) nodes)

-- each entry of a list names its own place in it, counted from this number
abbrev pub AreInPlace : (place : ℕ) → List LogEntry → Type 0
AreInPlace place [] = Unit {0}
AreInPlace place (e ∷ entries) = (e.place ≡ place) × AreInPlace (suc place) entries
