use Rattle.emu_top.proofs.Written.{thread_outputs}
use Rattle.emu_top.proofs.laws.thread_outputs_are_of_runs.Goals as goal

pub returns : goal.returns
returns c = thread_outputs
