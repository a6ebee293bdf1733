use Rattle.emu_top.proofs.Imports.{◌∙◌, ap, sym, subst, length, ◌++◌, IsPacket}
use Rattle.std.proofs.Common.{Err}
use Rattle.std.specs.Prelude.{All}
use Rattle.emu_top.proofs.Judging.{counted, declined_by_session, declined_by_stream, handed_on, judged, packets_are}
use Rattle.emu_top.proofs.checking.wrong_in.Goals as goal

pub returns-in_err-script-clause-declines : goal.returns-in_err-script-clause-declines
returns-in_err-script-clause-declines g c =
    let status = c.in_err-script.field-0.0 in
    handed_on c.from_residual-in_err-script.result status _ c.from_residual-in_err-script.ensures.1
    (declined_by_session c.in_ok-report.report.items _ _ _ status c.in_ok-report.ensures.begins c.in_err-script.ensures.refuses
    (λ turns is. c.read_session.ensures.not_too_long turns (c.in_err-script.was ∙ ap Err is)))

pub returns-in_err-packets-clause-declines : goal.returns-in_err-packets-clause-declines
returns-in_err-packets-clause-declines g c =
    let status = c.in_err-packets.field-0.0 in
    let session = c.in_ok-script.ensures.begins in
    handed_on c.from_residual-in_err-packets.result status _ c.from_residual-in_err-packets.ensures.1
    (declined_by_stream c.in_ok-report.report.items session.0 _ _ _ _ _ _ _ status c.in_ok-report.ensures.begins session.1 session.2 c.in_err-packets.ensures.cut_off)

pub first_fault-requires-clause-count : goal.first_fault-requires-clause-count
first_fault-requires-clause-count g c =
    let holds = c.in_ok-script.ensures.begins.2 in
    let of = c.in_ok-packets.ensures.whole in
    counted _ (holds.ahead ++ of.0) c.in_ok-packets.field-0 (of.2 holds.ahead holds.pulls) ∙ ap length (sym c.deref-2.ensures.value)

pub first_fault-requires-clause-packets : goal.first_fault-requires-clause-packets
first_fault-requires-clause-packets g c =
    let holds = c.in_ok-script.ensures.begins.2 in
    let of = c.in_ok-packets.ensures.whole in
    subst (All IsPacket) (sym c.deref-2.ensures.value) (packets_are _ (holds.ahead ++ of.0) c.in_ok-packets.field-0 (of.2 holds.ahead holds.pulls))

pub returns-in-Ok-clause-answer : goal.returns-in-Ok-clause-answer
returns-in-Ok-clause-answer g c =
    let session = c.in_ok-script.ensures.begins in
    judged c.in_ok-report.report.items session.0 _ _ _ _ _ _ _ c.in_ok-packets.field-0 c.in-Ok.fault c.in_ok-report.ensures.begins session.1 session.2
    c.in_ok-packets.ensures.whole c.in_ok-packets.ensures.end (rw (← c.deref.ensures.value, ← c.deref-2.ensures.value) c.in-Ok.ensures)
