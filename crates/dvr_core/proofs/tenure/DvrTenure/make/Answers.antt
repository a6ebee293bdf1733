use Rattle.dvr_core.proofs.tenure.DvrTenure.make.Goals as goal

pub returns-in-SetSize-clause-does : goal.returns-in-SetSize-clause-does
returns-in-SetSize-clause-does c = rw (c.in-SetSize.is, c.plain.ensures) (c.set_size.ensures.does c.args.ended)

pub returns-in-Read-clause-does : goal.returns-in-Read-clause-does
returns-in-Read-clause-does c = rw (c.in-Read.is, c.plain-in-Read.ensures) (c.read.ensures.does _)

pub returns-in-Poll-clause-does : goal.returns-in-Poll-clause-does
returns-in-Poll-clause-does c = rw (c.in-Poll.is, c.plain-in-Poll.ensures) (c.poll.ensures _)
