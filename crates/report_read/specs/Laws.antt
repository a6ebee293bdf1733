-- Laws of reports.
use Rattle.std.specs.Prelude.{◌≡◌}
use Rattle.report_read.specs.Imports.{LogEntry, Told, entry_text, text_of}
use Rattle.report_read.specs.Ranges.{IsEntryInRange, IsInRange}

-- an entry that a line tells is the only one
abbrev pub LinesTellOneEntry : Type 0
LinesTellOneEntry =
    (e f : LogEntry) → IsEntryInRange e → IsEntryInRange f → e.node ≡ f.node → entry_text e ≡ entry_text f → e ≡ f

-- what a report tells is the only thing that it tells
abbrev pub ReportsTellOneThing : Type 0
ReportsTellOneThing = (t u : Told) → IsInRange t → IsInRange u → text_of t ≡ text_of u → t ≡ u
