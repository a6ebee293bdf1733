use Rattle.emu_top.proofs.Written.{serial_outputs}
use Rattle.emu_top.proofs.laws.serial_outputs_are_of_runs.Goals as goal

pub returns : goal.returns
returns c = serial_outputs
