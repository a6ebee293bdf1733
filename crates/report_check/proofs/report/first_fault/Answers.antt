use Rattle.report_check.proofs.Imports.{◌<◌, ◌^◌, List, ℕ, length, subst, told_head, told_of, IsNoReport, IsReport, HasPassed}
use Rattle.report_check.proofs.Checking.{right, no_report, other_head, not_passed}
use Rattle.report_check.proofs.Ways.{at_none, at_some}
use Rattle.report_check.proofs.report.first_fault.Goals as goal

pub returns-in_default : goal.returns-in_default
returns-in_default c r =
    let none : IsNoReport c.args.bytes.now = rw c.in_default.is at c.in_ok-told.ensures in
    no_report c.args.script.now c.args.packets.now (told_head c.args.head.now) c.args.bytes.now none r

pub returns-then-not-is_same_head : goal.returns-then-not-is_same_head
returns-then-not-is_same_head c r =
    let report : IsReport (told_of c.in-Some.told) c.args.bytes.now = rw c.in-Some.is at c.in_ok-told.ensures in
    other_head c.args.script.now c.args.packets.now (told_head c.args.head.now) c.args.bytes.now (told_of c.in-Some.told) report (c.is_same_head.ensures.differs c.if-not-is_same_head.true) r

pub odd_part-requires-clause-range : goal.odd_part-requires-clause-range
odd_part-requires-clause-range c =
    let report : IsReport (told_of c.in-Some.told) c.args.bytes.now = rw c.in-Some.is at c.in_ok-told.ensures in
    report.range

pub odd_part-requires-clause-few : goal.odd_part-requires-clause-few
odd_part-requires-clause-few c =
    let report : IsReport (told_of c.in-Some.told) c.args.bytes.now = rw c.in-Some.is at c.in_ok-told.ensures in
    subst (λ (bytes : List ℕ). length bytes < 2 ^ 46) report.text c.requires.few

pub returns-in-None : goal.returns-in-None
returns-in-None c =
    let report : IsReport (told_of c.in-Some.told) c.args.bytes.now = rw c.in-Some.is at c.in_ok-told.ensures in
    let Passed : Type 0 = HasPassed c.args.script.now c.args.packets.now (told_of c.in-Some.told) in
    let passed : HasPassed c.args.script.now c.args.packets.now (told_of c.in-Some.told) = at_none c.in_ok-odd_part.field-0 Passed (Passed → ⊥) c.in_ok-odd_part.ensures c.in-None.is in
    right c.args.script.now c.lines-lines.ensures.known.clients c.args.packets.now (told_head c.args.head.now) c.args.bytes.now (told_of c.in-Some.told) report (c.is_same_head.ensures.same c.if-not-is_same_head.false) c.requires.count passed

pub returns : goal.returns
returns c r =
    let report : IsReport (told_of c.in-Some.told) c.args.bytes.now = rw c.in-Some.is at c.in_ok-told.ensures in
    let Passed : Type 0 = HasPassed c.args.script.now c.args.packets.now (told_of c.in-Some.told) in
    let never : HasPassed c.args.script.now c.args.packets.now (told_of c.in-Some.told) → ⊥ = at_some c.in_ok-odd_part.field-0 c.in-Some-2.odd Passed (Passed → ⊥) c.in_ok-odd_part.ensures c.in-Some-2.is in
    not_passed c.args.script.now c.args.packets.now (told_head c.args.head.now) c.args.bytes.now (told_of c.in-Some.told) report c.lines-lines.ensures.known never r
