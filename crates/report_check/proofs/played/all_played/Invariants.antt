use Rattle.report_check.proofs.Imports.{◌≡◌, [], ◌∷◌, map, range_with_len, played}
use Rattle.report_check.proofs.played.all_played.Given as goal

-- the feeder's, and those of the first clients
abbrev pub invariant-clients : goal.invariant-clients
invariant-clients l = map (λ p. p.items) l.all.items ≡ [] ∷ map (λ client. played client l.script) (range_with_len 0 l.client)
