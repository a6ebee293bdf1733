-- What clients play through the demux nodes in a run: the batches of those of their writes whose poll found the dvr node to be
-- their own (this project's own).
use Rattle.std.specs.Prelude.{ℕ, ◌≡◌, ◌<◌, ◌+◌, List, [], ◌∷◌, filter, filter_map, nat_eq, slice_get, Some}
use Rattle.script_run.specs.Imports.{DEMUX_NODES, Dvr, LogEntry, Packets, Scripted, Sources, batch_at, clients_in, filled_act, flat_map, played_writes, plays_of}
use Rattle.dmx_calls.specs.Invocation.{Invocation, Pass}
use Rattle.script_run.specs.IsRun.{IsRun, replies, sources}

-- the batch that passes by a call, if it comes from the dvr
abbrev pub from_the_dvr : Invocation → List Packets
from_the_dvr (Pass Dvr first packets now) = record { first = first; packets = packets } ∷ []
from_the_dvr _ = []

-- the batches that a caller brings a node from the dvr, in the order of the node's history, where passes bring some of these
-- packets
abbrev pub batches_by : (who : ℕ) → Sources → List LogEntry → List Packets
batches_by who packets h = flat_map (λ e. from_the_dvr (filled_act (packets e.who) e.act)) (filter (λ e. nat_eq e.who who) h)

-- In a run what passes a demux node by the calls of a client are the batches of those of its writes whose poll was answered
-- Ready, each once and in the order of the writes.
abbrev pub WritesPass : Type 0
WritesPass =
    (script : Scripted) (most : ℕ) (stream : List (List ℕ)) (hs : List (List LogEntry)) (run : IsRun script most stream hs)
    (client : ℕ) (is : client < clients_in script) (node : ℕ) (h : List LogEntry) → node < DEMUX_NODES
    → slice_get hs node ≡ Some h
    → batches_by (client + 1) (sources script stream) h
    ≡ filter_map (batch_at (plays_of client script)) (played_writes client script (replies (run.clients_done client is).made))
