use Rattle.std.proofs.Common.{◌∙◌, ap, Err}
use Rattle.emu_top.proofs.Outputs.{run_of, given_up}
use Rattle.emu_top.proofs.session.run_session.Goals as goal

pub returns-clause-refuses : goal.returns-clause-refuses
returns-clause-refuses g c begun size first takes h =
    rw c.status_of_run.ensures (given_up size c.args.session.script c.args.session.puller begun _ _ first c.in-Err.stop
    (λ turns is. c.run_steps.ensures.too_long turns (c.in-Err.is ∙ ap Err is)) takes h)

pub returns-in-Ok-clause-runs : goal.returns-in-Ok-clause-runs
returns-in-Ok-clause-runs g c begun size first takes h =
    run_of c.args.batch size c.args.session.script c.args.session.puller begun _ _ first c.in-Ok.ran c.requires.some takes h
    c.in-Ok.ensures.left c.in-Ok.ensures.rose c.in-Ok.ensures.later c.in-Ok.ensures.end c.look_at.ensures
