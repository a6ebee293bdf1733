use Rattle.serial_core.proofs.Imports.{◌≡◌, ◌*◌, ◌≤◌, ◌^◌, length, Moves, MadeAtMost, AreInBudget, IsFrontBy, calls_by}
use Rattle.serial_core.proofs.runner.Runner.lines.Given as goal

abbrev pub invariant-lines : goal.invariant-lines
invariant-lines g l = record {
  moves : Moves (g.S.Source.end l.initial.source) (g.S.Source.end l.source) l.initial.self l.self (IsFrontBy l.batch l.lines l.line-index l.initial.cores l.cores);
  made : MadeAtMost l.self (calls_by l.cores);
  calls : AreInBudget l.cores;
  moment : l.self.moment ≤ l.line-index * 2 ^ 32;
  clients : length l.cores ≡ length l.initial.cores;
}
