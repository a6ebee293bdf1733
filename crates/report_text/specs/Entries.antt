-- The lines of the report that tell the calls of a node (this project's own). Each line ends with a line feed.
use Rattle.std.specs.Prelude.{ℕ, Bool, suc, List, [], ◌∷◌, ◌++◌, codes, nat_lt, if◌then◌else◌}
use Rattle.report_text.specs.Imports.{LogEntry, decimal, flat_map, list_any, node_text, who_text}
use Rattle.report_text.specs.Acts.{act_text}
use Rattle.report_text.specs.Replies.{response_text}

-- the place of an entry, its caller and the caller's step, each with a space behind it
unfoldable pub caller_text : (place who step : ℕ) → List ℕ
caller_text place who step =
    decimal place ++ (codes " " ++ (who_text who ++ (codes " " ++ (decimal step ++ codes " "))))

-- an entry: these, the call, and the reply
abbrev pub entry_text : LogEntry → List ℕ
entry_text e =
    caller_text e.place e.who e.step ++ (act_text e.act ++ (codes " = " ++ (response_text e.response ++ codes "\n")))

-- whether a client made the call, and not the feeder
abbrev pub is_of_client : LogEntry → Bool
is_of_client e = nat_lt 0 e.who

-- a node with its entries, the oldest first; nothing for a node that no client called
abbrev pub history_text : (node : ℕ) → List LogEntry → List ℕ
history_text node entries =
    if list_any is_of_client entries
    then codes "node " ++ (node_text node ++ (codes "\n" ++ flat_map entry_text entries))
    else []

-- the nodes from this one on
abbrev pub histories_text : (node : ℕ) → List (List LogEntry) → List ℕ
histories_text node [] = []
histories_text node (entries ∷ more) = history_text node entries ++ histories_text (suc node) more
