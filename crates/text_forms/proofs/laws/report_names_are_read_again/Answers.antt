use Rattle.text_forms.proofs.NamesRead.{who_named-who_text, node_named-node_text}
use Rattle.text_forms.proofs.laws.report_names_are_read_again.Goals as goal

pub returns-clause-callers : goal.returns-clause-callers
returns-clause-callers c who few = who_named-who_text who few

pub returns-clause-nodes : goal.returns-clause-nodes
returns-clause-nodes c node few = node_named-node_text node few
