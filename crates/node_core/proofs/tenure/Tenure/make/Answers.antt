use Rattle.node_core.proofs.tenure.Tenure.make.Goals as goal

pub returns-in-SetFilter-clause-does : goal.returns-in-SetFilter-clause-does
returns-in-SetFilter-clause-does c = rw (c.in-SetFilter.is, c.plain.ensures) (c.set_filter.ensures.does c.args.ended)

pub returns-in-SetPes-clause-does : goal.returns-in-SetPes-clause-does
returns-in-SetPes-clause-does c = rw (c.in-SetPes.is, c.plain-in-SetPes.ensures) (c.set_pes.ensures.does c.args.ended)

pub returns-in-AddPid-clause-does : goal.returns-in-AddPid-clause-does
returns-in-AddPid-clause-does c = rw (c.in-AddPid.is, c.plain-in-AddPid.ensures) (c.add_pid.ensures.does c.args.ended)

pub returns-in-RemovePid-clause-does : goal.returns-in-RemovePid-clause-does
returns-in-RemovePid-clause-does c = rw (c.in-RemovePid.is, c.plain-in-RemovePid.ensures) (c.remove_pid.ensures.does c.args.ended)

pub returns-in-Start-clause-does : goal.returns-in-Start-clause-does
returns-in-Start-clause-does c = rw (c.in-Start.is, c.plain-in-Start.ensures) (c.start.ensures.does c.args.ended)

pub returns-in-Stop-clause-does : goal.returns-in-Stop-clause-does
returns-in-Stop-clause-does c = rw (c.in-Stop.is, c.plain-in-Stop.ensures) (c.stop.ensures.does c.args.ended)

pub returns-in-SetSize-clause-does : goal.returns-in-SetSize-clause-does
returns-in-SetSize-clause-does c = rw (c.in-SetSize.is, c.plain-in-SetSize.ensures) (c.set_size.ensures.does c.args.ended)
