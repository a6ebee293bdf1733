use Rattle.emu_top.proofs.Imports.{IfOk-weaker, IsSerialOutput}
use Rattle.emu_top.proofs.Answering.{says_ended, kept_end}
use Rattle.emu_top.proofs.Outputs.{reported}
use Rattle.emu_top.proofs.top.steps.Goals as goal

pub returns-clause-says : goal.returns-clause-says
returns-clause-says g c =
    says_ended (IsSerialOutput c.args.batch c.args.size) _ _ _ _ c.ran_of-left.result c.write_session.result
    (IfOk-weaker c.ran_of-left.result _ _ (λ ran r. reported c.args.batch c.args.size _ _ ran r) c.ran_of-left.ensures.runs) c.ran_of-left.ensures.refuses
    c.write_session.ensures.written (kept_end g.K.Sink.end _ _ _ c.ran_of-left.result c.write_session.ensures.refused)
