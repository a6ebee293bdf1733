use Rattle.emu_top.proofs.Imports.{arith, All-more, IsOutcomeInRange}
use Rattle.emu_top.proofs.Ranged.{all_in}
use Rattle.emu_top.proofs.fitting.look_at_commands.Goals as goal

pub outcomes-preserved : goal.outcomes-preserved
outcomes-preserved c = All-more IsOutcomeInRange c.args.outcomes.now c.outcomes.outcome-index _ c.outcomes-test.true c.outcomes.invariant c.look_at_outcome.ensures

pub returns : goal.returns
returns c = all_in IsOutcomeInRange c.args.outcomes.now c.outcomes.outcome-index (omega (arith, c.outcomes-test.false)) c.outcomes.invariant
