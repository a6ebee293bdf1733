use Rattle.std.proofs.Common.{◌+◌, ◌++◌, ◌∷◌, [], vec_len}
use Rattle.adapter.proofs.Pairs.{Made}
use Rattle.adapter.proofs.making.make_clients.Given as goal

abbrev pub invariant-loop-passes : goal.invariant-loop-passes
invariant-loop-passes l = Made (vec_len l.fn.rest + 1) (l.demux.items ++ l.dvr ∷ []) l.rest.items l.clients.items

abbrev pub decreases-loop-passes : goal.decreases-loop-passes
decreases-loop-passes l = vec_len l.rest
