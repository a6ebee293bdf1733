use Rattle.serial_core.proofs.Imports.{◌^◌, ◌≡◌, ℕ, ◌-◌, finished, Moves, MadeAtMost}
use Rattle.serial_core.proofs.runner.Runner.finish.Given as goal

abbrev pub invariant-turns : goal.invariant-turns
invariant-turns g l = record {
  moves : Moves (g.S.Source.end l.initial.source) (g.S.Source.end l.source) l.initial.self l.self (λ r s. finished l.batch r ≡ finished l.batch s);
  made : (calls : ℕ) → MadeAtMost l.initial.self calls → MadeAtMost l.self calls;
}

abbrev pub decreases-turns : goal.decreases-turns
decreases-turns g l = 2 ^ 41 - l.self.puller.given
