use Rattle.node_core.proofs.Imports.{refl}
use Rattle.dmx_calls.specs.Tenure.{has_ended, tenure, owner, size, size_or, setting, params, pids}
use Rattle.dmx_calls.specs.Capture.{capture}
use Rattle.dmx_calls.specs.Facts.{facts}
use Rattle.node_core.proofs.Standing.{selected_new}
use Rattle.node_core.proofs.node.NodeCore.new.Goals as goal

pub returns-clause-stands : goal.returns-clause-stands
unfolding facts has_ended owner tenure size size_or setting params pids capture
returns-clause-stands c = record { legal = tt; count = refl; known = refl; selected = selected_new _ }
