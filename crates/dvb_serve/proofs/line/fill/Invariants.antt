use Rattle.std.proofs.Common.{◌-◌, ◌≤◌}
use Rattle.dvb_serve.proofs.line.fill.Given as goal

abbrev pub invariant-pieces : goal.invariant-pieces
invariant-pieces l = l.done ≤ 76

abbrev pub decreases-pieces : goal.decreases-pieces
decreases-pieces l = 76 - l.done
