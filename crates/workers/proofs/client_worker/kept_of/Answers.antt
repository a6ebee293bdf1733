use Rattle.workers.proofs.Imports.{ap, sym, ◌∙◌, IfOk-weaker, response_of}
use Rattle.workers.proofs.client_worker.kept_of.Goals as goal

pub returns-clause-same : goal.returns-clause-same
returns-clause-same c = IfOk-weaker c.of.result _ _ (λ kept is. is ∙ ap response_of c.in_ok-reply.ensures.same) c.of.ensures

pub returns-clause-some : goal.returns-clause-some
returns-clause-some c = IfOk-weaker c.of.result _ _ (λ kept is none. c.in_ok-reply.ensures.some (sym is ∙ none)) c.of.ensures
