use Rattle.std.proofs.lemmas.Result.{IfErr-weaker}
use Rattle.emu_top.proofs.session.ran_of.Goals as goal

pub returns-in-Ok-clause-refuses : goal.returns-in-Ok-clause-refuses
returns-in-Ok-clause-refuses g c =
    let b = c.in-Ok.ensures.begins in
    IfErr-weaker c.run_session.result _ _ (λ status refused. refused _ c.args.size b.0 b.1 b.2) c.run_session.ensures.refuses
