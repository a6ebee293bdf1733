use Rattle.serial_core.proofs.Imports.{◌^◌, ◌≡◌, ℕ, ◌+◌, ◌-◌, ◌≤◌, Moves, MadeAtMost, ComesBy}
use Rattle.serial_core.proofs.runner.Runner.command.Given as goal

abbrev pub invariant-calls : goal.invariant-calls
invariant-calls g l = record {
  moves : Moves (g.S.Source.end l.initial.source) (g.S.Source.end l.source) l.initial.self l.self (ComesBy l.batch l.client l.line l.initial.core l.core);
  moment : l.self.moment ≡ l.initial.self.moment;
  made : (calls : ℕ) → MadeAtMost l.initial.self (l.initial.core.step + calls) → MadeAtMost l.self (l.core.step + calls);
  few : l.core.step ≤ 2 ^ 39;
}

abbrev pub decreases-calls : goal.decreases-calls
decreases-calls g l = 2 ^ 39 - l.core.step
