use Rattle.dvr_core.proofs.Imports.{◌+◌, refl, inl, Pass, Passed, core_view}
use Rattle.dvr_core.proofs.Standing.{stands_on}
use Rattle.dvr_core.proofs.dvr.DvrCore.pass.Goals as goal

pub returns-clause-stands : goal.returns-clause-stands
returns-clause-stands g c =
    let before = core_view c.self.inside in
    let after = core_view (record c.self.inside { entries = c.self.inside.entries + 1; kept = c.pass.new.self }) in
    rw (← c.self.view_is) (stands_on before after 0 (Pass c.args.input c.args.batch.now.first c.args.batch.now.packets c.args.now) Passed
    c.self.invariant.sound (inl refl) c.pass.ensures.after refl)
