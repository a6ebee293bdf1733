-- The histories by place, and the logs of the callers (this project's own).
use Rattle.std.specs.Prelude.{ℕ, ◌≡◌, ◌≤◌, ◌<◌, ◌+◌, Bool, List, [], ◌++◌, length, reverse, get_or, filter, nat_eq, Some, slice_get}
use Rattle.adapter.specs.Imports.{All, DEMUX_NODES, IsNonDecreasingBy, IsPermutation, flat_map}
use Rattle.dmx_calls.specs.declared.log.Entry.{Entry as ToldEntry}

-- the entry is one of this node
abbrev pub is_on : (node : ℕ) → ToldEntry → Bool
is_on node e = nat_eq e.node node

-- each entry is one of the 33 nodes
abbrev pub AreOnNodes : List ToldEntry → Type 0
AreOnNodes entries = All (λ e. e.node ≤ DEMUX_NODES) entries

-- the entries of all logs
abbrev pub all_of : List (List ToldEntry) → List ToldEntry
all_of logs = flat_map (λ log. log) logs

-- One list for each of the 33 nodes: just the entries of the logs on that node,
-- each as often as there, in order of place.
pub record AreByPlace (logs : List (List ToldEntry)) (nodes : List (List ToldEntry)) : Type 0 where
  pub many : length nodes ≡ DEMUX_NODES + 1
  pub entries : (node : ℕ) (calls : List ToldEntry) → slice_get nodes node ≡ Some calls
      → IsPermutation (filter (is_on node) (all_of logs)) calls
  pub in_order : (node : ℕ) (calls : List ToldEntry) → slice_get nodes node ≡ Some calls
      → IsNonDecreasingBy (λ e. e.place) calls

-- ------ on the way

-- the entries of a log stand behind those that were there, each with its node, the last one first
pub record IsDealt (log : List ToldEntry) (old new : List (List ToldEntry)) : Type 0 where
  pub long : length new ≡ length old
  pub each : (node : ℕ) → node < length old
      → get_or new node [] ≡ get_or old node [] ++ reverse (filter (is_on node) log)

-- the entries of all logs, each with its node, the last one first
pub record AreDealt (logs : List (List ToldEntry)) (nodes : List (List ToldEntry)) : Type 0 where
  pub long : length nodes ≡ DEMUX_NODES + 1
  pub each : (node : ℕ) → node < length nodes → get_or nodes node [] ≡ reverse (filter (is_on node) (all_of logs))

-- the same entries in each list, in order of place
pub record AreSorted (old new : List (List ToldEntry)) : Type 0 where
  pub long : length new ≡ length old
  pub same : (node : ℕ) → node < length old → IsPermutation (get_or old node []) (get_or new node [])
  pub in_order : (node : ℕ) → node < length old → IsNonDecreasingBy (λ e. e.place) (get_or new node [])
