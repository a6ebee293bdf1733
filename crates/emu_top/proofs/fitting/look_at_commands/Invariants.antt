use Rattle.emu_top.proofs.Imports.{take, All, IsOutcomeInRange}
use Rattle.emu_top.proofs.fitting.look_at_commands.Given as goal

abbrev pub invariant-outcomes : goal.invariant-outcomes
invariant-outcomes l = All IsOutcomeInRange (take l.outcome-index l.outcomes)
