use Rattle.workers.proofs.Imports.{refl, is_in, same_trans}
use Rattle.workers.proofs.FeederWork.{on_ok, passed_all, has_ended}
use Rattle.workers.proofs.feeder_worker.FeederWorker.work_counted.Goals as goal

pub returns : goal.returns
returns g c =
    let p = c.pass_all-passed in let e = c.end-places in
    record {
      same = same_trans c.args.self.now.feeder p.new.self.feeder e.new.self p.ensures.same e.ensures.same;
      draws = p.ensures.draws;
      nodes = e.ensures.nodes;
      ended = has_ended (is_in c.args.nodes.now) c.args.self.now.feeder p.new.self.feeder e.new.self e.result p.ensures.others e.ensures.entries e.ensures.nodes
          _ c.requires.begun.fed.made;
      all = λ found. let ok = c.stop_of-self.ensures.memory found in
          passed_all (is_in c.args.nodes.now) c.args.most (g.C.Clock.may_give c.args.clock.now) (g.C.Clock.may_give_behind c.args.clock.now) g.B.Batches.took _ _ c.args.self.now.puller c.args.batches.now p.new.batches c.finish.new.self p.new.self _ e.result
          (on_ok p.result _ ok p.ensures.passed _ c.args.self.now.puller c.args.batches.now c.requires.begun) g.met.B.Batches.took_both c.finish.ensures (on_ok p.result _ ok p.ensures.done) refl e.ensures.same.0 e.ensures.entries;
      few = c.stop_of-self.ensures.none;
      too_long = c.stop_of-self.ensures.too_long;
    }
