use Rattle.emu_top.proofs.Imports.{subst, arith, All, IsOutcomeInRange}
use Rattle.emu_top.proofs.Ranged.{next_in, all_in}
use Rattle.emu_top.proofs.fitting.look_at_clients.Goals as goal

pub clients-preserved : goal.clients-preserved
clients-preserved c = next_in (λ those. All IsOutcomeInRange those.items) c.args.clients.now c.clients.outcomes-index c.outcomes-item.result c.clients-test.true c.outcomes-item.is c.clients.invariant (subst (All IsOutcomeInRange) c.deref.ensures.value c.look_at_commands.ensures)

pub returns : goal.returns
returns c = all_in (λ those. All IsOutcomeInRange those.items) c.args.clients.now c.clients.outcomes-index (omega (arith, c.clients-test.false)) c.clients.invariant
