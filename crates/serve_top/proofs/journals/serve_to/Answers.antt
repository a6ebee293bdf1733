use Rattle.serve_top.proofs.journals.serve_to.Goals as goal

pub gather-requires : goal.gather-requires
gather-requires g c = record { all = c.in_ok-adapter.ensures.all }

pub returns-clause-served : goal.returns-clause-served
returns-clause-served g c = record { feeder = _; clients = _; served = c.in_ok-adapter.ensures.served; histories = c.gather.ensures.histories }
