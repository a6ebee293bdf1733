-- What a journal in memory keeps.
use Rattle.std.specs.Prelude.{◌≡◌, true, List, ◌++◌, map}
use Rattle.seats.specs.Imports.{LogEntry, Outcome, told_entry}
use Rattle.seats.specs.declared.journal.KeptJournal.{KeptJournal}

-- Where it is whole, it was so before, and just these calls and what became of these commands were added.
abbrev pub HasKept : List LogEntry → List Outcome → (old new : KeptJournal) → Type 0
HasKept calls told old new = new.whole ≡ true
    → (old.whole ≡ true) × (map told_entry new.log.items ≡ map told_entry old.log.items ++ calls)
    × (new.outcomes.items ≡ old.outcomes.items ++ told)
