use Rattle.std.proofs.Common.{None}
use Rattle.dvr_core.proofs.Places.{same_at_each}
use Rattle.dvr_core.proofs.taps.Taps.new.Goals as goal

pub returns : goal.returns
returns c = same_at_each None c.default.result 32 c.default.ensures.long c.default.ensures.at
