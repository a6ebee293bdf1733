use Rattle.ts_packet.proofs.Imports.{arith, cut}
use Rattle.ts_packet.proofs.CutLemmas.{cut-append}
use Rattle.ts_packet.proofs.PieceLemmas.{has-pieces, same-pieces}
use Rattle.ts_packet.proofs.laws.cutting_law.Goals as goal

pub returns-clause-made : goal.returns-clause-made
unfolding cut
returns-clause-made c = λ size stream. let i = has-pieces size 0 stream (omega arith) in (i.pieces, (cut size stream).rest, i.made, i.cuts)

pub returns-clause-unique : goal.returns-clause-unique
returns-clause-unique c = same-pieces

pub returns-clause-apart : goal.returns-clause-apart
returns-clause-apart c = cut-append
