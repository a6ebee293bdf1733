use Rattle.serial_core.proofs.One.{one}
use Rattle.serial_core.proofs.laws.the_serial_run_is_one.Goals as goal

pub returns : goal.returns
returns c = one
