use Rattle.std.proofs.Common.{rules}
use Rattle.client_script.proofs.Cuts.{first-line}
use Rattle.client_script.proofs.script.next_line.Goals as goal

pub returns-clause-line : goal.returns-clause-line
returns-clause-line c = first-line c.args.bytes.now c.cut_at.result.0.now c.in_ok-behind.field-0.now (search rules)
