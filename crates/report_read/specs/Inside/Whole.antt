-- How the parts of a report are read (this project's own).
use Rattle.std.specs.Prelude.{ℕ, Bool, true, false, List, Some, codes}
use Rattle.report_read.specs.Imports.{Outcome, OutcomeKind, PidRow, Tally, Told, ToldNode}
use Rattle.dmx_calls.specs.declared.outcome.OutcomeKind.TheVariants as outcome
use Rattle.report_read.specs.Inside.Reading.{Reading, and_then, past, choose, number_in, number16, number32, number64, begins_number, begins_with, all_in}
use Rattle.report_read.specs.Inside.Entries.{entry_in}

-- ------ the stream

unfoldable pub tally_in : List ℕ → Reading Tally
tally_in bytes =
    and_then (past (codes "packets=") bytes number64) (λ packets bytes.
    and_then (past (codes " skipped=") bytes number64) (λ skipped bytes.
    and_then (past (codes " rest=") bytes number32) (λ rest bytes.
    past (codes "\n") bytes (λ bytes.
    Some (record { packets = packets; skipped = skipped; rest = rest }, bytes)))))

-- the numbers of a PID
unfoldable pub counts_in : List ℕ → Reading PidRow
counts_in bytes =
    and_then (past (codes " packets=") bytes number64) (λ packets bytes.
    and_then (past (codes " breaks=") bytes number64) (λ breaks bytes.
    and_then (past (codes " duplicates=") bytes number64) (λ duplicates bytes.
    and_then (past (codes " errors=") bytes number64) (λ errors bytes.
    past (codes "\n") bytes (λ bytes.
    Some (record { packets = packets; breaks = breaks; duplicates = duplicates; errors = errors }, bytes))))))

unfoldable pub row_in : List ℕ → Reading (ℕ × PidRow)
row_in bytes =
    past (codes "pid ") bytes (λ bytes. and_then (number16 bytes) (λ pid bytes.
    and_then (counts_in bytes) (λ counts bytes. Some ((pid, counts), bytes))))

abbrev pub rows_in : List ℕ → Reading (List (ℕ × PidRow))
rows_in bytes = all_in (begins_with (codes "pid ")) row_in bytes

-- ------ the clients

-- a system time counter
unfoldable pub stc_in : List ℕ → Reading OutcomeKind
stc_in bytes =
    and_then (past (codes "stc base=") bytes number32) (λ base bytes.
    and_then (past (codes " value=") bytes number64) (λ value bytes.
    Some (outcome.Stc base value, bytes)))

unfoldable pub kind_in : List ℕ → Reading OutcomeKind
kind_in bytes =
    choose (codes "done") bytes (λ bytes. Some (outcome.Done, bytes))
    (choose (codes "EMFILE") bytes (λ bytes. Some (outcome.Emfile, bytes))
    (choose (codes "unbound") bytes (λ bytes. Some (outcome.Unbound, bytes))
    (choose (codes "nostc") bytes (λ bytes. Some (outcome.NoStc, bytes)) (stc_in bytes))))

unfoldable pub outcome_in : List ℕ → Reading Outcome
outcome_in bytes =
    and_then (past (codes "line ") bytes number32) (λ line bytes.
    and_then (past (codes " steps ") bytes number64) (λ from bytes.
    and_then (past (codes "..") bytes number64) (λ to bytes.
    past (codes " ") bytes (λ bytes. and_then (kind_in bytes) (λ kind bytes.
    past (codes "\n") bytes (λ bytes.
    Some (record { line = line; from = from; to = to; kind = kind }, bytes)))))))

abbrev pub outcomes_in : List ℕ → Reading (List Outcome)
outcomes_in bytes = all_in (begins_with (codes "line ")) outcome_in bytes

-- the line of a client
abbrev pub client_number_in : List ℕ → Reading ℕ
client_number_in bytes =
    past (codes "client ") bytes (λ bytes. and_then (number_in 0 4294967294 bytes) (λ client bytes.
    past (codes "\n") bytes (λ bytes. Some (client, bytes))))

-- a client; which one it is, its place tells
unfoldable pub client_in : List ℕ → Reading (List Outcome)
client_in bytes = and_then (client_number_in bytes) (λ client bytes. outcomes_in bytes)

abbrev pub clients_in : List ℕ → Reading (List (List Outcome))
clients_in bytes = all_in (begins_with (codes "client ")) client_in bytes

-- ------ the nodes

-- the name of a node
unfoldable pub node_name_in : List ℕ → Reading ℕ
node_name_in bytes = choose (codes "dvr") bytes (λ bytes. Some (32, bytes)) (number_in 0 31 bytes)

-- the line of a node
abbrev pub node_line_in : List ℕ → Reading ℕ
node_line_in bytes =
    past (codes "node ") bytes (λ bytes. and_then (node_name_in bytes) (λ node bytes.
    past (codes "\n") bytes (λ bytes. Some (node, bytes))))

-- a node with its entries
unfoldable pub node_in : List ℕ → Reading ToldNode
node_in bytes =
    and_then (node_line_in bytes) (λ node bytes. and_then (all_in begins_number (entry_in node) bytes) (λ entries bytes.
    Some (record { node = node; entries = entries }, bytes)))

abbrev pub nodes_in : List ℕ → Reading (List ToldNode)
nodes_in bytes = all_in (begins_with (codes "node ")) node_in bytes

-- ------ the whole

-- the last line
unfoldable pub end_in : List ℕ → Reading Bool
end_in bytes =
    choose (codes "end\n") bytes (λ bytes. Some (false, bytes))
    (past (codes "fault read\n") bytes (λ bytes. Some (true, bytes)))

-- the first two lines
abbrev pub first_in : List ℕ → Reading Tally
first_in bytes = past (codes "dvbemu 1\n") bytes tally_in

-- a report
unfoldable pub told_in : List ℕ → Reading Told
told_in bytes =
    and_then (first_in bytes) (λ tally bytes.
    and_then (rows_in bytes) (λ rows bytes. and_then (clients_in bytes) (λ outcomes bytes.
    and_then (nodes_in bytes) (λ nodes bytes. and_then (end_in bytes) (λ failed bytes.
    Some (
      record {
        head = record { tally = tally; rows = rows; read_fault = failed };
        outcomes = outcomes;
        nodes = nodes;
      },
      bytes,
    ))))))
