-- The parts of a report, as they are asked.
use Rattle.std.specs.Prelude.{◌≡◌, ◌≢◌, ℕ, ◌+◌, ◌&&◌, Bool, true, List, [], ◌∷◌, length, map, nat_le, nat_lt, slice_index_or, Vec}
use Rattle.report_check.specs.Imports.{Act, All, DEMUX_NODES, Dvr as FromDvr, Frontend, Global, Input, IsLegalFor, LARGEST_READ, LogEntry, NoMemory, Outcome, Pass as PassAct, Read as ReadAct, Scripted, Sources, Told, ToldNode, clients_in, filled, outcomes, played as played_of, range_with_len, replies, rules_at, steps_of, told_entry}
use Rattle.dmx_calls.specs.declared.log.Entry.{Entry as ToldEntry}
use Rattle.report_check.specs.Playing.{brought_from}
use Rattle.report_check.specs.Completed.{complete}
use Rattle.report_check.specs.Walk.{IsRest, queues_in}
use Rattle.report_check.specs.Inside.Feeding.{feeds, IsFedAlike}

-- ------ entries

-- what each caller plays, by its number: the feeder nothing, and each client the packets of its writes
abbrev pub all_played : Scripted → List (List (List ℕ))
all_played script = [] ∷ map (λ client. played_of client script) (range_with_len 0 8)

-- how many packets there are of which a caller's passes bring some, where the stream has so many, and each caller plays so many
abbrev pub count_for : (packets : ℕ) → (counts : List ℕ) → (who : ℕ) → Input → ℕ
count_for packets counts who Frontend = packets
count_for packets counts who FromDvr = slice_index_or counts who 0

-- whether a caller's call can be made again: a read is no longer than a read may be, and a pass has 1 to 64 of so many packets
abbrev pub is_callable : (packets : ℕ) → (counts : List ℕ) → (who : ℕ) → Act → Bool
is_callable packets counts who (ReadAct now count) = nat_le count LARGEST_READ
is_callable packets counts who (PassAct input batch now) =
    nat_lt 0 batch.count && (nat_le batch.count 64 && nat_le (batch.first + batch.count) (count_for packets counts who input))
is_callable packets counts who _ = true

-- whether the entry is one of the feeder or of so many clients, and can be made again
abbrev pub is_sound : (clients packets : ℕ) → (counts : List ℕ) → LogEntry → Bool
is_sound clients packets counts e = nat_le e.who clients && is_callable packets counts e.who e.act

abbrev pub are_sound : (clients packets : ℕ) → (counts : List ℕ) → List LogEntry → Bool
are_sound clients packets counts [] = true
are_sound clients packets counts (e ∷ es) = is_sound clients packets counts e && are_sound clients packets counts es

-- ------ nodes

-- nodes with their entries, as the code has them
abbrev pub told_node : ℕ × Vec ToldEntry Global → ToldNode
told_node n = record { node = n.0; entries = map told_entry n.1.items }

abbrev pub told_nodes : List (ℕ × Vec ToldEntry Global) → List ToldNode
told_nodes nodes = map told_node nodes

-- a node with sound entries, on which the feeder's calls are the same as in these others
abbrev pub IsSoundNode : (clients packets : ℕ) → (counts : List ℕ) → (others : List LogEntry) → ToldNode → Type 0
IsSoundNode clients packets counts others n = (are_sound clients packets counts n.entries ≡ true) × IsFedAlike others n.entries

-- all nodes are, as the first is, on which the feeder passes so many packets
abbrev pub AreSoundNodes : (clients packets : ℕ) → (counts : List ℕ) → List ToldNode → Type 0
AreSoundNodes clients packets counts [] = Unit {0}
AreSoundNodes clients packets counts (n ∷ ns) =
    (feeds packets 0 0 (steps_of 0 n.entries) ≡ true) × All (IsSoundNode clients packets counts n.entries) (n ∷ ns)

-- each reply on the node is the one that the entries before it give, and memory was found
abbrev pub IsPlayed : (packets : Sources) → ToldNode → Type 0
IsPlayed packets n =
    IsLegalFor (rules_at n.node) (filled packets n.entries) × All (λ e. e.response ≢ NoMemory) n.entries

-- ------ clients

-- the entries of each node, none for a node that isn't told
abbrev pub dealt : List ToldNode → List (List LogEntry)
dealt nodes = complete (DEMUX_NODES + 1) 0 [] nodes

-- the client's entries are just what its commands ask for, and this is what became of them
pub record IsDoneAs (script : Scripted) (hs : List (List LogEntry)) (client : ℕ) (told : List Outcome) : Type 0 where
  pub made : List LogEntry
  pub rest : IsRest client script [] (queues_in client hs) made
  pub outcomes : told ≡ outcomes client script (replies made)

-- so are those of the clients from this one on
abbrev pub AreDoneAs : (script : Scripted) → (hs : List (List LogEntry)) → (client : ℕ) → List (List Outcome) → Type 0
AreDoneAs script hs client [] = Unit {0}
AreDoneAs script hs client (told ∷ more) = IsDoneAs script hs client told × AreDoneAs script hs (client + 1) more

-- ------ the whole

-- all that is asked of what a report tells
pub record HasPassed (script : Scripted) (packets : List (List ℕ)) (t : Told) : Type 0 where
  pub clients : length t.outcomes ≡ clients_in script
  pub nodes : AreSoundNodes (clients_in script) (length packets) (map (λ ps. length ps) (all_played script)) t.nodes
  pub done : AreDoneAs script (dealt t.nodes) 0 t.outcomes
  pub played : All (IsPlayed (brought_from packets (all_played script))) t.nodes
