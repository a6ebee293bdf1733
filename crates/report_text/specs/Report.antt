-- The whole report (this project's own). Each line ends with a line feed, and numbers are decimal.
use Rattle.std.specs.Prelude.{ℕ, suc, Bool, true, false, List, [], ◌∷◌, ◌++◌, codes}
use Rattle.report_text.specs.Imports.{LogEntry, Outcome, OutcomeKind, PidRow, StreamHead, Tally, decimal, flat_map}
use Rattle.dmx_calls.specs.declared.outcome.OutcomeKind.TheVariants.{Done, Emfile, Unbound, Stc, NoStc}
use Rattle.report_text.specs.Entries.{histories_text}

-- ------ the stream

-- how many packets, skipped bytes and bytes of rest the stream has
abbrev pub tally_text : Tally → List ℕ
tally_text tally =
    codes "packets=" ++ (decimal tally.packets
    ++ (codes " skipped=" ++ (decimal tally.skipped ++ (codes " rest=" ++ (decimal tally.rest ++ codes "\n")))))

-- the packets of a PID
abbrev pub row_text : (ℕ × PidRow) → List ℕ
row_text row =
    codes "pid " ++ (decimal row.0 ++ (codes " packets="
    ++ (decimal row.1.packets ++ (codes " breaks=" ++ (decimal row.1.breaks
    ++ (codes " duplicates=" ++ (decimal row.1.duplicates
    ++ (codes " errors=" ++ (decimal row.1.errors ++ codes "\n")))))))))

-- ------ the clients

-- how a command ended
unfoldable pub kind_text : OutcomeKind → List ℕ
kind_text Done = codes "done"
kind_text Emfile = codes "EMFILE"
kind_text Unbound = codes "unbound"
kind_text (Stc base value) = codes "stc base=" ++ (decimal base ++ (codes " value=" ++ decimal value))
kind_text NoStc = codes "nostc"

-- a command: its line, the step of its first call and the step behind its last, and how it ended
abbrev pub outcome_text : Outcome → List ℕ
outcome_text o =
    codes "line " ++ (decimal o.line ++ (codes " steps "
    ++ (decimal o.from ++ (codes ".." ++ (decimal o.to ++ (codes " " ++ (kind_text o.kind ++ codes "\n")))))))

-- a client with its commands in their order
abbrev pub client_text : (client : ℕ) → List Outcome → List ℕ
client_text client outcomes = codes "client " ++ (decimal client ++ (codes "\n" ++ flat_map outcome_text outcomes))

-- the clients from this one on
abbrev pub clients_text : (client : ℕ) → List (List Outcome) → List ℕ
clients_text client [] = []
clients_text client (outcomes ∷ more) = client_text client outcomes ++ clients_text (suc client) more

-- ------ the whole

-- the last line says whether the source failed in the stream
unfoldable pub end_text : (read_fault : Bool) → List ℕ
end_text true = codes "fault read\n"
end_text false = codes "end\n"

-- The report: a first line, the stream and its PIDs, each client with its commands, each node that a client
-- called with its entries, and a last line.
abbrev pub report_of : StreamHead → (outcomes : List (List Outcome)) → (histories : List (List LogEntry)) → List ℕ
report_of head outcomes histories =
    codes "dvbemu 1\n" ++ (tally_text head.tally
    ++ (flat_map row_text head.rows ++
    (clients_text 0 outcomes ++ (histories_text 0 histories ++ end_text head.read_fault))))
