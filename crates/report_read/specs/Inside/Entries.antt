-- How the lines of a node are read (this project's own).
use Rattle.std.specs.Prelude.{ℕ, List, Some, codes}
use Rattle.report_read.specs.Imports.{LogEntry}
use Rattle.report_read.specs.declared.entries.EntryFront.{EntryFront}
use Rattle.report_read.specs.Inside.Reading.{Reading, and_then, past, number64}
use Rattle.report_read.specs.Inside.Parts.{who_in, act_in, response_in}

-- what stands in front of a reply
unfoldable pub front_in : List ℕ → Reading EntryFront
front_in bytes =
    and_then (number64 bytes) (λ place bytes.
    past (codes " ") bytes (λ bytes. and_then (who_in bytes) (λ who bytes.
    and_then (past (codes " ") bytes number64) (λ step bytes.
    past (codes " ") bytes (λ bytes. and_then (act_in bytes) (λ act bytes.
    past (codes " = ") bytes (λ bytes.
    Some (record { place = place; step = step; who = who; act = act }, bytes))))))))

-- a line of this node
unfoldable pub entry_in : (node : ℕ) → List ℕ → Reading LogEntry
entry_in node bytes =
    and_then (front_in bytes) (λ front bytes. and_then (response_in bytes) (λ response bytes.
    past (codes "\n") bytes (λ bytes.
    Some (
      record { node = node; place = front.place; step = front.step; who = front.who; act = front.act; response = response },
      bytes,
    ))))
