use Rattle.std.proofs.Common.{refl}
use Rattle.ts_batch.proofs.Members.{none-in}
use Rattle.ts_batch.proofs.place_set.PlaceSet.new.Goals as goal

pub invariant_of-result : goal.invariant_of-result
invariant_of-result c = record { marks = refl; none = λ e i. none-in 64 i }

pub returns : goal.returns
returns c = λ i. none-in 64 i
