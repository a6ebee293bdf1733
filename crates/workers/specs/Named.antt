-- The nodes that the calls of a script can be on.
use Rattle.std.specs.Prelude.{ℕ, Bool, true, false, ◌||◌, List, nat_eq}
use Rattle.workers.specs.Imports.{Command, DEMUX_NODES, Dvr, Line, Node, Slot, Target, Verb, Write, list_any}

-- a command for this target may call this node; a slot may be bound to any
abbrev pub is_for : Target → (node : ℕ) → Bool
is_for (Node n) node = nat_eq n node
is_for (Slot slot) node = true
is_for Dvr node = false

-- what a client writes may pass each demux node
abbrev pub passes_all : Verb → Bool
passes_all (Write write) = true
passes_all _ = false

abbrev pub names : (node : ℕ) → Line → Bool
names node (Command line client target verb) = is_for target node || passes_all verb
names node _ = false

-- Some command of the script may call this node. The dvr node is always one of them, since it is told of the demux
-- nodes' taps.
abbrev pub is_named : List Line → (node : ℕ) → Bool
is_named lines node = nat_eq node DEMUX_NODES || list_any (names node) lines
