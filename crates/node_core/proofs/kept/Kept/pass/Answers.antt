use Rattle.node_core.proofs.Imports.{◌∙◌, ap, sym, params_of, state_of, state_of_filter, knows_in}
use Rattle.node_core.proofs.ByValues.{ran_before}
use Rattle.node_core.proofs.kept.Kept.pass.Goals as goal

pub returns-in-Go-clause-idle : goal.returns-in-Go-clause-idle
returns-in-Go-clause-idle g c = λ idle.
    let t = c.in-Some.tenure in
    let runs = ran_before (params_of t.params) t.buffer.terms.timeout c.args.now t.buffer.ledger (ap (λ b. state_of_filter (params_of t.params) b.ledger) (sym c.expire.ensures.after) ∙ (sym c.state.ensures ∙ c.in-Go.is)) in
    absurd (idle (ap (λ o. state_of (knows_in c.args.self.now.has_ended o).facts) c.in-Some.is ∙ runs))
