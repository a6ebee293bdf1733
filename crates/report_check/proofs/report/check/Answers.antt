use Rattle.report_check.proofs.Imports.{told_head, IsRightReport}
use Rattle.report_check.proofs.Ways.{where_none, where_some}
use Rattle.report_check.proofs.report.check.Goals as goal

pub returns-clause-right : goal.returns-clause-right
returns-clause-right c e =
    where_none c.in_ok-first_fault.field-0 (IsRightReport c.args.script.now c.args.packets.now (told_head c.args.head.now) c.args.bytes.now) c.is_none.result c.in_ok-first_fault.ensures c.is_none.ensures e

pub returns-clause-wrong : goal.returns-clause-wrong
returns-clause-wrong c e =
    where_some c.in_ok-first_fault.field-0 (IsRightReport c.args.script.now c.args.packets.now (told_head c.args.head.now) c.args.bytes.now) c.is_none.result c.in_ok-first_fault.ensures c.is_none.ensures e
