-- The nodes 0 to 32: the demux nodes, and the dvr node last. A history has the
-- oldest entry first here, as that of a lock.
use Rattle.std.specs.Prelude.{ℕ, Bool, false, List, reverse, slice_index_or}
use Rattle.adapter.specs.Imports.{End, Entry, Frontend, Held, IsLegalFor, Packets, Pass, Passed, TableId, View, caller_of, entry_of, rules_at}
use Rattle.adapter.specs.Rows.{OneCalls, OneMisses, OneLooks, AllCall}

-- a legal history of the node of this number
abbrev pub IsLegalAt : (node : ℕ) → List Entry → Type 0
IsLegalAt node h = IsLegalFor (rules_at node) (reverse h)

-- the pass of a node has made this entry at this place of the node's history, which is legal
-- with it, and no other pass is changed
abbrev pub MakesEntry : (node : ℕ) → Entry → (place : ℕ) → List (TableId × View Entry) → List (TableId × View Entry)
    → Type 0
MakesEntry node e place old new = OneCalls caller_of (IsLegalAt node) node (λ who. e) place old new

-- the pass of a node has tried in vain
abbrev pub MakesNoEntry : (node : ℕ) → Held → List (TableId × View Entry) → List (TableId × View Entry) → Type 0
MakesNoEntry node held old new = OneMisses caller_of (IsLegalAt node) node held old new

-- the pass of a node has looked, and seen so many entries
abbrev pub Looks : (node len : ℕ) → List (TableId × View Entry) → List (TableId × View Entry) → Type 0
Looks node len old new = OneLooks caller_of (IsLegalAt node) node len old new

-- whether a node is among these: for each node they say whether it is
abbrev pub is_in : List Bool → (node : ℕ) → Bool
is_in nodes node = slice_index_or nodes node false

-- the pass of each node that is among these has made this entry, at the place with its number, and no other pass is changed
abbrev pub MakesEachEntry : (among : ℕ → Bool) → Entry → (places : List ℕ) → List (TableId × View Entry)
    → List (TableId × View Entry) → Type 0
MakesEachEntry among e places old new = AllCall caller_of IsLegalAt among (λ who. e) places old new

-- the entry that the feeder, caller 0, makes of a batch, and that of the stream's end
abbrev pub fed : Packets → (now : ℕ) → Entry
fed batch now = entry_of 0 (Pass Frontend batch.first batch.packets now) Passed

abbrev pub ended : Entry
ended = entry_of 0 End Passed
