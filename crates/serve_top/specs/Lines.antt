-- The lines that a server writes of what was called, where it keeps nothing. Each ends with a line feed, and numbers are decimal.
use Rattle.std.specs.Prelude.{◌≡◌, true, List, ℕ, ◌++◌, codes}
use Rattle.serve_top.specs.Imports.{Appends, Fed, LogEntry, SinkEnd, decimal, entry_text, node_text}
use Rattle.serve_top.specs.declared.written.WrittenLines.{WrittenLines}

-- a call: its node, and then the line that a report has of it
abbrev pub call_line : LogEntry → List ℕ
call_line e = node_text e.node ++ (codes " " ++ entry_text e)

-- a batch: the number of its first packet, how many packets it has, and the moment in milliseconds
abbrev pub fed_line : Fed → List ℕ
fed_line f = decimal f.first ++ (codes " " ++ (decimal f.count ++ (codes " " ++ (decimal f.now ++ codes "\n"))))

-- Where it is whole, it was so before, and this text was written between.
abbrev pub HasWritten : {K : Type 0} → (K → SinkEnd) → (text : List ℕ) → (old new : WrittenLines K) → Type 0
HasWritten end text old new = new.whole ≡ true → (old.whole ≡ true)
    × Appends (end old.sink).written (end new.sink).written text
