use Rattle.serial_core.proofs.Imports.{◌≡◌, ℕ, fed, Moves, MadeAtMost}
use Rattle.serial_core.proofs.runner.Runner.feed.Given as goal

abbrev pub invariant-turns : goal.invariant-turns
invariant-turns g l = record {
  moves : Moves (g.S.Source.end l.initial.source) (g.S.Source.end l.source) l.initial.self l.self (λ r s. fed l.batch l.count r ≡ fed l.batch l.left s);
  moment : l.self.moment ≡ l.initial.self.moment;
  made : (calls : ℕ) → MadeAtMost l.initial.self calls → MadeAtMost l.self calls;
}

abbrev pub decreases-turns : goal.decreases-turns
decreases-turns g l = l.left
