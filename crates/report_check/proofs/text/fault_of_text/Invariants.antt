use Rattle.std.proofs.Common.{length}
use Rattle.report_check.proofs.text.fault_of_text.Given as goal

abbrev pub decreases-lines : goal.decreases-lines
decreases-lines l = length l.rest
