use Rattle.serve_top.proofs.Imports.{◌≡◌, true, map, All, Vec, Global, ToldEntry, Outcome, Rung, KeptJournal}
use Rattle.serve_top.proofs.server.kept_by.Given as goal

abbrev pub invariant-journals : goal.invariant-journals
invariant-journals g l = record {
  whole : All (λ (k : Rung _ KeptJournal). k.kept.whole ≡ true) l.yielded;
  logs : map (λ (log : Vec ToldEntry Global). log.items) l.logs.items ≡ map (λ (k : Rung _ KeptJournal). k.kept.log.items) l.yielded;
  outcomes : map (λ (those : Vec Outcome Global). those.items) l.outcomes.items ≡ map (λ (k : Rung _ KeptJournal). k.kept.outcomes.items) l.yielded;
}
