use Rattle.adapter.proofs.adapter.Adapter.gather.Goals as goal

pub returns-clause-histories : goal.returns-clause-histories
returns-clause-histories c = λ node below. let h = c.lengths-lengths.ensures node below in (h.0, h.2)
