-- What is kept in memory, one behind another.
use Rattle.std.proofs.Common.{List, [], ◌++◌, map, sym, ◌∙◌, ap}
use Rattle.seats.specs.Imports.{LogEntry, Outcome, append-nil, append_assoc, told_entry}
use Rattle.seats.specs.declared.journal.KeptJournal.{KeptJournal}
use Rattle.seats.specs.Kept.{HasKept}

pub kept_none : (a : KeptJournal) → HasKept [] [] a a
kept_none a whole = (whole, sym (append-nil (map told_entry a.log.items)), sym (append-nil a.outcomes.items))

pub kept_both : (a b c : KeptJournal) (xs ys : List LogEntry) (os ps : List Outcome) → HasKept xs os a b → HasKept ys ps b c
    → HasKept (xs ++ ys) (os ++ ps) a c
kept_both a b c xs ys os ps p q whole =
    let later = q whole in let first = p later.0 in (
      first.0,
      later.1 ∙ (ap (λ (l : List LogEntry). l ++ ys) first.1 ∙ append_assoc (map told_entry a.log.items) xs ys),
      later.2 ∙ (ap (λ (l : List Outcome). l ++ ps) first.2 ∙ append_assoc a.outcomes.items os ps),
    )
