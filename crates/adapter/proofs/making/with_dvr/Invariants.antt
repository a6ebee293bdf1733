use Rattle.std.proofs.Common.{vec_len}
use Rattle.adapter.proofs.Pairs.{Paired}
use Rattle.adapter.proofs.making.with_dvr.Given as goal

abbrev pub invariant-loop-row : goal.invariant-loop-row
invariant-loop-row l = Paired (λ r. r.items) (vec_len l.fn.passes) l.demux.items l.dvr l.rows.items l.passes.items l.all.items

abbrev pub decreases-loop-row : goal.decreases-loop-row
decreases-loop-row l = vec_len l.rows
