use Rattle.emu_top.proofs.Imports.{arith, All-more, pass_act, IsActInRange}
use Rattle.emu_top.proofs.Ranged.{all_in}
use Rattle.emu_top.proofs.fitting.look_at_feeding.Goals as goal

pub feeding-preserved : goal.feeding-preserved
feeding-preserved c = All-more (λ fed. IsActInRange (pass_act fed)) c.args.feeding.now c.feeding.fed-index _ c.feeding-test.true c.feeding.invariant c.look_at_fed.ensures

pub returns : goal.returns
returns c = all_in (λ fed. IsActInRange (pass_act fed)) c.args.feeding.now c.feeding.fed-index (omega (arith, c.feeding-test.false)) c.feeding.invariant
