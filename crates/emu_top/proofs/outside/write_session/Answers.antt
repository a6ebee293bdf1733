use Rattle.std.proofs.Common.{◌∙◌, map, ap, Err}
use Rattle.emu_top.proofs.Answering.{whole_done, whole_read_fault, part_failed}
use Rattle.emu_top.proofs.outside.write_session.Goals as goal

pub returns-in-Err-Failed-clause-written : goal.returns-in-Err-Failed-clause-written
returns-in-Err-Failed-clause-written g c =
    let is = c.in-Err-Failed.is ∙ ap Err c.in-Err-Failed.field-0-is in
    rw c.in-Ok.is (part_failed c.in-Ok.left (map (λ those. those.items) c.deref.result.now) (ap (map (λ those. those.items)) c.deref.ensures.value) _ _
    (c.write_report.ensures.part is) (c.write_report.ensures.rose is))

pub returns-then-left-clause-written : goal.returns-then-left-clause-written
returns-then-left-clause-written g c =
    rw c.in-Ok.is (whole_read_fault c.in-Ok.left (map (λ those. those.items) c.deref.result.now) (ap (map (λ those. those.items)) c.deref.ensures.value) _ _
    c.if-left.true c.in-Ok-write_report.ensures.whole c.in-Ok-write_report.ensures.steady)

pub returns-clause-written : goal.returns-clause-written
returns-clause-written g c =
    rw c.in-Ok.is (whole_done c.in-Ok.left (map (λ those. those.items) c.deref.result.now) (ap (map (λ those. those.items)) c.deref.ensures.value) _ _
    c.if-left.false c.in-Ok-write_report.ensures.whole c.in-Ok-write_report.ensures.steady)
