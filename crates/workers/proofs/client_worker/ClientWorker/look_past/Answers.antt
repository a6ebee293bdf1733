use Rattle.workers.proofs.Imports.{arith, IsLegalAt}
use Rattle.workers.proofs.Logging.{seen_there}
use Rattle.workers.proofs.Working.{looked_none, looked_on}
use Rattle.workers.proofs.client_worker.ClientWorker.look_past.Goals as goal

pub looks-init : goal.looks-init
looks-init g c = (tt, tt, looked_none c.args.adapter.now c.args.self.now, c.requires.fit)

pub looks-preserved : goal.looks-preserved
looks-preserved g c =
    let e = c.len-len.ensures in
    let h = looked_on c.args.adapter.now c.args.self.now c.looks.self c.len-len.new.self (IsLegalAt c.args.node) c.args.node c.len-len.result c.looks.invariant.2 e.looks e.left e.same e.own in
    (tt, tt, h, h.fit c.requires.fit)

pub returns-then-len-saturating_add-clause-looked : goal.returns-then-len-saturating_add-clause-looked
returns-then-len-saturating_add-clause-looked g c =
    let e = c.len-len.ensures in
    looked_on c.args.adapter.now c.args.self.now c.looks.self c.len-len.new.self (IsLegalAt c.args.node) c.args.node c.len-len.result c.looks.invariant.2 e.looks e.left e.same e.own

pub returns-then-len-saturating_add-clause-past : goal.returns-then-len-saturating_add-clause-past
returns-then-len-saturating_add-clause-past g c p at =
    let e = c.len-len.ensures in
    let long = seen_there c.looks.self.client c.len-len.new.self (IsLegalAt c.args.node) c.args.node c.len-len.result e.looks e.same.0 p at in
    let few = e.looks.looked.few in
    omega (arith, c.saturating_add.ensures, c.if-len-saturating_add.true)
