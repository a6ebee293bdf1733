use Rattle.emu_top.proofs.Imports.{rules, IfErr-weaker}
use Rattle.emu_top.proofs.Outputs.{fails_early, refused_by}
use Rattle.emu_top.proofs.session.read_session.Goals as goal

pub returns-in-Err-Failed-clause-refuses : goal.returns-in-Err-Failed-clause-refuses
returns-in-Err-Failed-clause-refuses g c = fails_early _ _ (search rules) (search rules)

pub returns-in-Ok-clause-refuses : goal.returns-in-Ok-clause-refuses
returns-in-Ok-clause-refuses g c =
    let read = c.in-Ok.ensures in
    IfErr-weaker c.session_of.result _ _ (λ status fault. refused_by _ _ c.in-Ok.front.part status read.fits (record { taken = read.bytes; steady = search rules }) read.end fault) c.session_of.ensures.fault
