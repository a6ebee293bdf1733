use Rattle.workers.proofs.Imports.{List, [], ◌∷◌, ◌++◌, subst, Caller, HaveHistories}
use Rattle.workers.proofs.run.gather.Goals as goal

pub returns : goal.returns
returns c = subst (λ (l : List Caller). HaveHistories (l ++ c.args.feeder.feeder ∷ [])) c.in_ok-clients.ensures.clients c.gather.ensures.histories
