use Rattle.emu_top.specs.Session.{IsThreadOutput}
use Rattle.emu_top.proofs.Answering.{says_ended, kept_end}
use Rattle.emu_top.proofs.top.run.Goals as goal

pub returns-clause-says : goal.returns-clause-says
returns-clause-says g c =
    says_ended (IsThreadOutput c.args.batch c.args.size (g.C.Clock.may_give c.args.clock.now)) _ _ _ _ c.left_by_threads-left.result c.write_session.result
    c.left_by_threads-left.ensures.makes c.left_by_threads-left.ensures.refuses
    c.write_session.ensures.written (kept_end g.K.Sink.end _ _ _ c.left_by_threads-left.result c.write_session.ensures.refused)
