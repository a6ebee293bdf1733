use Rattle.std.proofs.Common.{vec_len}
use Rattle.adapter.proofs.Deals.{Dealing}
use Rattle.adapter.proofs.making.deal.Given as goal

abbrev pub invariant-loop-pass : goal.invariant-loop-pass
invariant-loop-pass g l = Dealing (λ r. r.items) l.fn.rows l.fn.passes.items l.passes.items l.rows

abbrev pub decreases-loop-pass : goal.decreases-loop-pass
decreases-loop-pass g l = vec_len l.passes
