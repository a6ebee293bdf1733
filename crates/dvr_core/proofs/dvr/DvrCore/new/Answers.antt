use Rattle.dvr_core.proofs.Imports.{refl, has_ended, tenure, owner, dvr_size, size_or, dvr_capture, tap_of, taps_of}
use Rattle.dmx_calls.specs.Facts.{facts}
use Rattle.dvr_core.proofs.dvr.DvrCore.new.Goals as goal

pub returns : goal.returns
unfolding facts has_ended owner tenure dvr_size size_or dvr_capture taps_of tap_of
returns c = record { legal = tt; count = refl; known = refl; taps = c.new.ensures }
