use Rattle.serial_core.proofs.Runs.{are_runs}
use Rattle.serial_core.proofs.laws.the_serial_run_is_a_run.Goals as goal

pub returns : goal.returns
returns c = are_runs
