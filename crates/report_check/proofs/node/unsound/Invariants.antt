use Rattle.report_check.proofs.Imports.{◌≡◌, length, map, told_entry, are_sound}
use Rattle.report_check.proofs.node.unsound.Given as goal

abbrev pub invariant-entries : goal.invariant-entries
invariant-entries l = are_sound l.fn.clients l.fn.packets (map (λ ps. length ps) (map (λ p. p.items) l.fn.played)) (map told_entry l.fn.entries) ≡ are_sound l.fn.clients l.fn.packets (map (λ ps. length ps) (map (λ p. p.items) l.fn.played)) (map told_entry l.rest)

abbrev pub decreases-entries : goal.decreases-entries
decreases-entries l = length l.rest
