use Rattle.workers.proofs.Imports.{rules, same_trans}
use Rattle.workers.proofs.client_worker.ClientWorker.run.Goals as goal

pub calls-preserved : goal.calls-preserved
calls-preserved g c =
    let i = c.calls.invariant in
    let waited = same_trans c.args.self.now.client c.calls.self.client c.wait.new.self.client i.same c.wait.ensures.looked.same in
    let may = g.C.Clock.may_give c.args.clock.now in
    record {
      same = same_trans c.args.self.now.client c.wait.new.self.client c.make.new.self.client waited c.make.ensures.same;
      fit = c.in_ok-make.ensures.fit;
      few = search rules;
      goes_on = λ script client works. let k = i.goes_on script client works in
          c.in_ok-make.ensures.works may script client (c.moment_of-now.ensures c.wait.new.self.core.plays) (c.wait.ensures.may may script client k) (c.wait.ensures.looked.goes_on may script client k);
    }

pub returns-in_err-make-clause-same : goal.returns-in_err-make-clause-same
returns-in_err-make-clause-same g c =
    same_trans c.args.self.now.client c.wait.new.self.client c.make.new.self.client
    (same_trans c.args.self.now.client c.calls.self.client c.wait.new.self.client c.calls.invariant.same c.wait.ensures.looked.same) c.make.ensures.same
