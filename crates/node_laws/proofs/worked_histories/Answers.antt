use Rattle.node_laws.proofs.Worked.{worked}
use Rattle.node_laws.proofs.worked_histories.Goals as goal

pub returns-clause-at_the_read : goal.returns-clause-at_the_read
returns-clause-at_the_read c = worked.0

pub returns-clause-behind_the_read : goal.returns-clause-behind_the_read
returns-clause-behind_the_read c = worked.1

pub returns-clause-taps : goal.returns-clause-taps
returns-clause-taps c = worked.2
