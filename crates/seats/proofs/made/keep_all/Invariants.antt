use Rattle.seats.proofs.Imports.{◌≡◌, ◌++◌, List, map, take, told_entry, ToldEntry, told_made}
use Rattle.seats.proofs.made.keep_all.Given as goal

-- the entries of the calls so far stand behind those of the log
abbrev pub invariant-calls : goal.invariant-calls
invariant-calls l = (rest : List ToldEntry) × (l.log.items ≡ l.initial.log.items ++ rest) × (map told_entry rest ≡ map (told_made l.who) (take l.made-index l.calls))
