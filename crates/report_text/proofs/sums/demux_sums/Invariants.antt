use Rattle.report_text.proofs.Imports.{◌*◌, ◌^◌, take, AreSums, AreAtMost}
use Rattle.report_text.proofs.sums.demux_sums.Given as goal

abbrev pub invariant-nodes : goal.invariant-nodes
invariant-nodes l = AreSums (take l.node l.histories) l.sums × AreAtMost (l.node * 2 ^ 121) l.sums
