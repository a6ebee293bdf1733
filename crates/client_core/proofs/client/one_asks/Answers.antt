use Rattle.client_core.proofs.Imports.{subst, arith, All, take_all, All-more, CanBegin}
use Rattle.client_core.proofs.client.one_asks.Goals as goal

pub commands-preserved : goal.commands-preserved
commands-preserved c = All-more (CanBegin 0) c.args.commands.now c.commands.command-index _ c.commands-test.true c.commands.invariant (c.asks.ensures.none c.if-asks.false)

pub returns-clause-none : goal.returns-clause-none
returns-clause-none c none = subst (λ cs. All (CanBegin 0) cs) (take_all c.commands.command-index c.args.commands.now (omega (arith, c.commands-test.false))) c.commands.invariant
