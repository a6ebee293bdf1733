-- What a report tells, and the report that tells it (this project's own).
use Rattle.std.specs.Prelude.{ℕ, List, ◌++◌, codes}
use Rattle.report_text.specs.Imports.{LogEntry, Outcome, StreamHead, flat_map, node_text}
use Rattle.report_text.specs.Entries.{entry_text}
use Rattle.report_text.specs.Report.{tally_text, row_text, clients_text, end_text}

-- a node with its entries, the oldest first
pub record ToldNode : Type 0 where
  pub node : ℕ
  pub entries : List LogEntry

-- the stream, what became of each client's commands, and the nodes that the report shows
pub record Told : Type 0 where
  pub head : StreamHead
  pub outcomes : List (List Outcome)
  pub nodes : List ToldNode

-- a node and a line for each of its entries
abbrev pub told_node_text : ToldNode → List ℕ
told_node_text n = codes "node " ++ (node_text n.node ++ (codes "\n" ++ flat_map entry_text n.entries))

-- the report that tells this
abbrev pub text_of : Told → List ℕ
text_of t =
    codes "dvbemu 1\n" ++ (tally_text t.head.tally
    ++ (flat_map row_text t.head.rows
    ++ (clients_text 0 t.outcomes ++ (flat_map told_node_text t.nodes ++ end_text t.head.read_fault))))
