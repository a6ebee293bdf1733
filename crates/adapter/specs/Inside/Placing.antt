-- Where the entries of merged histories stand.
use Rattle.std.specs.Prelude.{ℕ, ◌≡◌, ◌≤◌, ◌<◌, ◌+◌, List, length, map, filter, nat_eq, Some, slice_get}
use Rattle.adapter.specs.Imports.{All, AreInPlace, DEMUX_NODES, Fed, IsDistinct, LogEntry, histories_of}
use Rattle.dmx_calls.specs.declared.log.Entry.{Entry as ToldEntry}
use Rattle.adapter.specs.Merging.{is_on, all_of, AreByPlace}

-- the entries that the logs have on a node
abbrev pub entries_on : (node : ℕ) → List (List ToldEntry) → List ToldEntry
entries_on node logs = filter (is_on node) (all_of logs)

-- how long a node's history is: the feeder's batches, its end, and the clients' entries
abbrev pub length_on : (node : ℕ) → List Fed → List (List ToldEntry) → ℕ
length_on node feeding logs = length feeding + 1 + length (entries_on node logs)

-- The logs name no place of the node twice, and none that its history doesn't reach. So each
-- place is one entry's or the feeder's.
pub record NameTheirPlaces (feeding : List Fed) (logs : List (List ToldEntry)) (node : ℕ) : Type 0 where
  pub below : All (λ e. e.place < length_on node feeding logs) (entries_on node logs)
  pub once : IsDistinct nat_eq (map (λ e. e.place) (entries_on node logs))

-- then the merged history of the node is so long, and each of its entries stands at the place that it names
abbrev pub StandAtTheirPlaces : Type 0
StandAtTheirPlaces =
    (feeding : List Fed) (logs nodes : List (List ToldEntry)) → AreByPlace logs nodes → (node : ℕ) → node ≤ DEMUX_NODES
    → NameTheirPlaces feeding logs node
    → (h : List LogEntry) → slice_get (histories_of feeding nodes) node ≡ Some h
    → AreInPlace 0 h × (length h ≡ length_on node feeding logs)
