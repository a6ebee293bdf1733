use Rattle.report_read.proofs.Imports.{◌≡◌, more_pids}
use Rattle.report_read.proofs.sets.read_more_pids.Given as goal

abbrev pub invariant-pids : goal.invariant-pids
invariant-pids l = more_pids l.most l.fn.first l.fn.bytes ≡ more_pids l.left l.set l.bytes

abbrev pub decreases-pids : goal.decreases-pids
decreases-pids l = l.left
