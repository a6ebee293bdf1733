-- Which texts are reports (this project's own).
use Rattle.std.specs.Prelude.{◌≡◌, ◌≢◌, ℕ, suc, ◌&&◌, Bool, true, List, [], ◌∷◌, map, nat_eq, nat_le, nat_lt}
use Rattle.report_read.specs.Imports.{LARGEST_PID, LogEntry, PidRow, Told, ToldNode, entry_text, is_of_client, list_any, text_of, told_entry, told_head}
use Rattle.report_read.specs.declared.whole.ReadReport.{ReadReport}
use Rattle.report_read.specs.Ranges.{IsEntryOf, IsInRange}

-- ------ what stands in its order

-- the rows are those of PIDs that have a packet, ascending from this number on
unfoldable pub are_rows : (least : ℕ) → List (ℕ × PidRow) → Bool
are_rows least [] = true
are_rows least (row ∷ rows) =
    (nat_le least row.0 && (nat_le row.0 LARGEST_PID && nat_lt 0 row.1.packets)) && are_rows (suc row.0) rows

-- the first entry has this place, and each other the place behind the one before
unfoldable pub are_placed : (place : ℕ) → List LogEntry → Bool
are_placed place [] = true
are_placed place (e ∷ es) = nat_eq e.place place && are_placed (suc place) es

-- a client called the node, and each entry has its index as its place
abbrev pub is_whole_node : ToldNode → Bool
is_whole_node n = list_any is_of_client n.entries && are_placed 0 n.entries

-- the nodes ascend from this number on, and each is whole
unfoldable pub are_nodes : (least : ℕ) → List ToldNode → Bool
are_nodes least [] = true
are_nodes least (n ∷ ns) = (nat_le least n.node && is_whole_node n) && are_nodes (suc n.node) ns

-- ------ reports

-- what a report tells stands in its order
pub record IsInOrder (t : Told) : Type 0 where
  pub rows : are_rows 0 t.head.rows ≡ true
  pub nodes : are_nodes 0 t.nodes ≡ true

-- the bytes are no report: they are the text of nothing that is in range and in its order
abbrev pub IsNoReport : List ℕ → Type 0
IsNoReport bytes = (t : Told) → IsInRange t → IsInOrder t → bytes ≢ text_of t

-- the bytes are the report that tells this
pub record IsReport (t : Told) (bytes : List ℕ) : Type 0 where
  pub range : IsInRange t
  pub order : IsInOrder t
  pub text : bytes ≡ text_of t

-- the bytes are no line of this node: they tell no entry of it
abbrev pub IsNoLine : (node : ℕ) → (line : List ℕ) → Type 0
IsNoLine node line = (e : LogEntry) → IsEntryOf node e → line ≢ entry_text e

-- what the code has read
abbrev pub told_of : ReadReport → Told
told_of t = record {
  head = told_head t.head;
  outcomes = map (λ o. o.items) t.outcomes.items;
  nodes = map (λ n. record { node = n.0; entries = map told_entry n.1.items }) t.nodes.items;
}
