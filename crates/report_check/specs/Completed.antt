-- The histories of all nodes that a report stands for (this project's own). A report shows the nodes that a client called; on
-- each other node the feeder was alone.
use Rattle.std.specs.Prelude.{ℕ, zero, suc, ◌+◌, ◌-◌, List, [], ◌∷◌, filter, nat_eq, nat_lt, min, if◌then◌else◌}
use Rattle.report_check.specs.Imports.{DEMUX_NODES, End as EndAct, Frontend, LogEntry, Outcome, StreamHead, Told, ToldNode, feeder_entry, is_of_client, list_any, passing}

-- ------ from histories to a report

-- the nodes of these histories that a report shows, from this node on: those that a client called
abbrev pub shown : (node : ℕ) → List (List LogEntry) → List ToldNode
shown node [] = []
shown node (h ∷ hs) =
    if list_any is_of_client h then record { node = node; entries = h } ∷ shown (suc node) hs else shown (suc node) hs

-- what a report of these histories tells
abbrev pub told_by : StreamHead → (outcomes : List (List Outcome)) → (hs : List (List LogEntry)) → Told
told_by head outcomes hs = record { head = head; outcomes = outcomes; nodes = shown 0 hs }

-- ------ the feeder

-- these entries as those of another node, each with its index as its place, from this place on
abbrev pub renumbered : (node place : ℕ) → List LogEntry → List LogEntry
renumbered node place [] = []
renumbered node place (e ∷ es) = record e { node = node; place = place } ∷ renumbered node (suc place) es

-- the entries of the feeder
abbrev pub of_feeder : List LogEntry → List LogEntry
of_feeder h = filter (λ e. nat_eq e.who 0) h

-- so many packets in batches of 64 at moment 0, the last with what is left, and then the end of the stream; `left` is a bound
-- of the number of batches
unfoldable pub tiled : (left first step packets : ℕ) → List LogEntry
tiled zero first step packets = feeder_entry 0 step step EndAct ∷ []
tiled (suc left) first step packets =
    if nat_lt first packets
    then feeder_entry 0 step step (passing Frontend first (min 64 (packets - first)) 0)
    ∷ tiled left (first + 64) (suc step) packets
    else feeder_entry 0 step step EndAct ∷ []

-- What the feeder did on each node: what it did on the first node that is told. Where none is told nothing says in what batches
-- the packets passed, and any will do.
abbrev pub feeder_of : (packets : ℕ) → List ToldNode → List LogEntry
feeder_of packets [] = tiled packets 0 0 packets
feeder_of packets (n ∷ nodes) = of_feeder n.entries

-- ------ all nodes

-- so many nodes from this one on: those that are told, and each other with the feeder's entries alone
abbrev pub complete : (left node : ℕ) → (feeder : List LogEntry) → List ToldNode → List (List LogEntry)
complete zero node feeder nodes = []
complete (suc left) node feeder [] = renumbered node 0 feeder ∷ complete left (suc node) feeder []
complete (suc left) node feeder (n ∷ nodes) =
    if nat_eq n.node node then n.entries ∷ complete left (suc node) feeder nodes
    else renumbered node 0 feeder ∷ complete left (suc node) feeder (n ∷ nodes)

-- the histories of the demux nodes and the dvr node for which what a report tells stands
unfoldable pub completed : Told → List (List LogEntry)
completed t = complete (DEMUX_NODES + 1) 0 (feeder_of t.head.tally.packets t.nodes) t.nodes
