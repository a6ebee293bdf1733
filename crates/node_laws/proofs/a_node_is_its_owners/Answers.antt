use Rattle.node_laws.proofs.Owning.{others_leave_the_owner, others_do_not_read, readers_call_between}
use Rattle.node_laws.proofs.a_node_is_its_owners.Goals as goal

pub returns-clause-stays : goal.returns-clause-stays
returns-clause-stays c = others_leave_the_owner

pub returns-clause-reads : goal.returns-clause-reads
returns-clause-reads c = others_do_not_read

pub returns-clause-between : goal.returns-clause-between
returns-clause-between c = readers_call_between
