use Rattle.std.proofs.lemmas.Result.{IfErr-weaker}
use Rattle.emu_top.proofs.threads.left_by_threads.Goals as goal

pub returns-clause-refuses : goal.returns-clause-refuses
returns-clause-refuses g c =
    let b = c.in_ok-session.ensures.begins in
    IfErr-weaker c.run_threads.result _ _ (λ status refused. refused _ c.args.size b.0 b.1 b.2) c.run_threads.ensures.refuses
