use Rattle.client_script.proofs.Imports.{subst, Reading, IsPlain, Line}
use Rattle.client_script.proofs.Numbering.{Gives, command_plain}
use Rattle.client_script.proofs.verbs.read_asked.Goals as goal

pub returns-clause-range : goal.returns-clause-range
returns-clause-range c =
    (c.in_ok-asked.ensures.range, subst (λ (r : Reading Line). Gives IsPlain r) c.in_ok-asked.ensures.value (command_plain c.args.line c.args.client _ _))
