use Rattle.pid_set.proofs.Rising.{is-added, is-removed}
use Rattle.pid_set.proofs.set.adding_and_removing.Goals as goal

pub returns-clause-added : goal.returns-clause-added
returns-clause-added c = is-added

pub returns-clause-removed : goal.returns-clause-removed
returns-clause-removed c = is-removed
