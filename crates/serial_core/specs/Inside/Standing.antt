-- What it means that the code has run so far.
use Rattle.std.specs.Prelude.{ℕ, ◌≡◌, ◌+◌, ◌<◌, ◌≤◌, Bool, true, false, List, [], ◌∷◌, ◌++◌, length, map, replicate}
use Rattle.serial_core.specs.Imports.{Act, DEMUX_NODES, End as EndAct, Fed, History, StandsFor as DvrStands, pass_act, range_with_len, told_entry, woven}
use Rattle.dmx_calls.specs.Invocation.{Invocation, Pass, End}
use Rattle.node_core.specs.Stands.{StandsFor as DemuxStands}
use Rattle.serial_core.specs.declared.node.AnyCore.{AnyCore}
use Rattle.serial_core.specs.declared.node.AnyCore.TheVariants.{Demux, Dvr}
use Rattle.serial_core.specs.declared.seat.SerialNode.{SerialNode}
use Rattle.serial_core.specs.declared.nodes.Nodes.{Nodes}
use Rattle.serial_core.specs.Nodes.{Node, history_of, log_of}
use Rattle.serial_core.specs.SerialRun.{Run}

-- ------ the feeder's calls

abbrev pub end_of : Bool → List Act
end_of true = EndAct ∷ []
end_of false = []

-- the feeder's calls on each node, of which End may not have come
abbrev pub acts_of : List Fed → (has_ended : Bool) → List Act
acts_of feeding has_ended = map pass_act feeding ++ end_of has_ended

-- a call of the feeder
abbrev pub IsFeeding : Invocation → Type 0
IsFeeding (Pass input first packets now) = Unit {0}
IsFeeding End = Unit {0}
IsFeeding _ = ⊥

-- ------ one node

-- The core of a node stands for a history of the node of this number.
abbrev pub StandsAt : AnyCore → (number : ℕ) → History → Type 0
StandsAt (Demux core) number h = (number < DEMUX_NODES) × DemuxStands core h
StandsAt (Dvr core) number h = (number ≡ DEMUX_NODES) × DvrStands core h

-- how many calls were made on it
abbrev pub entries_in : AnyCore → ℕ
entries_in (Demux core) = core.entries
entries_in (Dvr core) = core.entries

-- A node of the code is where the run's is, which has these calls of the feeder: its core stands for the history, and
-- its entries are those of the clients.
pub record IsSeat (acts : List Act) (seat : SerialNode) (n : Node) : Type 0 where
  pub core : StandsAt seat.core n.number (history_of n)
  pub number : seat.node ≡ n.number
  pub log : woven n.number acts (map told_entry seat.entries.items) ≡ (log_of n).entries

-- ------ all nodes

-- two lists of the same length, whose elements are related one by one
abbrev pub Pairs : {A B : Type 0} → (A → B → Type 0) → List A → List B → Type 0
Pairs R [] [] = Unit {0}
Pairs R (x ∷ xs) (y ∷ ys) = R x y × Pairs R xs ys
Pairs R _ _ = ⊥

-- the feeder's calls on the nodes of the code
abbrev pub acts_on : Nodes → List Act
acts_on v = acts_of v.feeding.items v.has_ended

-- the nodes of a run are those of the numbers 0 to 32, in their order
abbrev pub AreInOrder : Run → Type 0
AreInOrder r = map (λ node. node.number) r.nodes ≡ range_with_len 0 (DEMUX_NODES + 1)

-- the nodes of the code are where those of the run are
pub record IsNodes (v : Nodes) (r : Run) : Type 0 where
  pub seats : Pairs (IsSeat (acts_on v)) v.seats.items r.nodes
  pub turns : length (acts_on v) ≡ r.turns
  pub has_ended : v.has_ended ≡ r.has_ended

-- the node has at most so many entries
abbrev pub IsUnder : SerialNode → (most : ℕ) → Type 0
IsUnder seat most = entries_in seat.core ≤ most

-- so have all these nodes, which are 33
abbrev pub AreUnder : List SerialNode → (most : ℕ) → Type 0
AreUnder seats most = Pairs IsUnder seats (replicate (DEMUX_NODES + 1) most)

-- no node has more entries than calls were made
abbrev pub AreCounted : Nodes → Type 0
AreCounted v = AreUnder v.seats.items v.made
