use Rattle.report_read.proofs.Again.{one_entry}
use Rattle.report_read.proofs.lines_tell_one_entry.Goals as goal

pub returns : goal.returns
returns c e f is is' same text = one_entry e f is is' same text
