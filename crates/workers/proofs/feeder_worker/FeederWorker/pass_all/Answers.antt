use Rattle.workers.proofs.Imports.{◌∙◌, ◌++◌, [], refl, same_trans, draws_none, draws_then}
use Rattle.workers.proofs.Working.{same_self}
use Rattle.workers.proofs.feeder_worker.FeederWorker.pass_all.Goals as goal

pub batches-init : goal.batches-init
batches-init g c = record { fit = c.requires.may.fit; same = same_self c.args.self.now.feeder; others = λ node off. refl; draws = ([], draws_none _ c.args.self.now.puller); passed = λ before first was h. h }

pub turn-requires : goal.turn-requires
turn-requires g c = record {
  may = record {
    some = c.requires.may.some;
    few = c.requires.may.few;
    fit = c.batches.invariant.fit;
  };
}

pub returns-in_err-turn-clause-same : goal.returns-in_err-turn-clause-same
returns-in_err-turn-clause-same g c = same_trans c.args.self.now.feeder c.batches.self.feeder c.turn.new.self.feeder c.batches.invariant.same c.turn.ensures.same

pub returns-in_err-turn-clause-others : goal.returns-in_err-turn-clause-others
returns-in_err-turn-clause-others g c node off = c.turn.ensures.others node off ∙ c.batches.invariant.others node off

pub returns-in_err-turn-clause-draws : goal.returns-in_err-turn-clause-draws
returns-in_err-turn-clause-draws g c = let k = c.batches.invariant.draws in let d = c.turn.ensures.draws in (k.0 ++ d.0, draws_then _ _ _ _ _ _ k.0 d.0 k.1 d.1)

pub batches-preserved : goal.batches-preserved
batches-preserved g c = let k = c.batches.invariant.draws in let d = c.turn.ensures.draws in record {
  fit = c.turn.ensures.fit;
  same = same_trans c.args.self.now.feeder c.batches.self.feeder c.turn.new.self.feeder c.batches.invariant.same c.turn.ensures.same;
  others = λ node off. c.turn.ensures.others node off ∙ c.batches.invariant.others node off;
  draws = (k.0 ++ d.0, draws_then _ _ _ _ _ _ k.0 d.0 k.1 d.1);
  passed = λ before first was h. c.in_ok-turn.ensures.passed before first was (c.batches.invariant.passed before first was h);
}

pub returns-clause-same : goal.returns-clause-same
returns-clause-same g c = same_trans c.args.self.now.feeder c.batches.self.feeder c.turn.new.self.feeder c.batches.invariant.same c.turn.ensures.same

pub returns-clause-others : goal.returns-clause-others
returns-clause-others g c node off = c.turn.ensures.others node off ∙ c.batches.invariant.others node off

pub returns-clause-draws : goal.returns-clause-draws
returns-clause-draws g c = let k = c.batches.invariant.draws in let d = c.turn.ensures.draws in (k.0 ++ d.0, draws_then _ _ _ _ _ _ k.0 d.0 k.1 d.1)
