-- The histories of the 33 nodes, once all passes of each were joined.
use Rattle.std.specs.Prelude.{◌≡◌, ◌≤◌, ℕ, List, length, slice_index, map}
use Rattle.adapter.specs.Imports.{DEMUX_NODES, Entry, HasJust, TableId, View, caller_of}
use Rattle.adapter.specs.Rows.{column, all_calls, EachBegins}
use Rattle.adapter.specs.Callers.{Caller}
use Rattle.adapter.specs.Nodes.{IsLegalAt}

-- the history of a node: it is legal, has just the calls of these passes at the places that they were told, and
-- begins with what each of them had seen
pub record IsHistory (node : ℕ) (passes : List (TableId × View Entry)) (h : List Entry) : Type 0 where
  pub legal : IsLegalAt node h
  pub just : HasJust caller_of (all_calls passes) h
  pub begins : EachBegins passes h

-- each node has a history with just the calls of these rows of passes, of the length with its number
abbrev pub AreHistories : (rows : List (List (TableId × View Entry))) → (lengths : List ℕ) → Type 0
AreHistories rows lengths = (node : ℕ) → node ≤ DEMUX_NODES
    → (h : List Entry) × (length h ≡ slice_index lengths node) × IsHistory node (column node rows) h

-- the passes of these callers
abbrev pub rows_of : List Caller → List (List (TableId × View Entry))
rows_of callers = map (λ c. c.passes) callers

-- each node has a history with just the calls of these callers
abbrev pub HaveHistories : List Caller → Type 0
HaveHistories callers =
    (node : ℕ) → node ≤ DEMUX_NODES → (h : List Entry) × IsHistory node (column node (rows_of callers)) h

-- and it is of the length with its number
abbrev pub HaveHistoriesOf : (lengths : List ℕ) → List Caller → Type 0
HaveHistoriesOf lengths callers = AreHistories (rows_of callers) lengths
