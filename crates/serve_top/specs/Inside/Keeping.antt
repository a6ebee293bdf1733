-- Lines whose calls are kept in memory.
use Rattle.std.specs.Prelude.{◌≡◌, List, [], map, All}
use Rattle.serve_top.specs.Imports.{JournalLine, KeptJournal}
use Rattle.serve_top.specs.declared.rung.Rung.{Rung}

-- it has been given nothing yet
abbrev pub HasNothing : KeptJournal → Type 0
HasNothing k = (k.log.items ≡ []) × (k.outcomes.items ≡ [])

-- these lines, each with a journal that has been given nothing yet
pub record AreKeptLines {T E : Type 0} (lines : List T) (kept : List (JournalLine T (Rung E KeptJournal))) : Type 0 where
  pub are : map (λ l. l.line) kept ≡ lines
  pub each : All (λ l. HasNothing l.journal.kept) kept
