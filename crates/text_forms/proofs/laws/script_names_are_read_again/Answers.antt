use Rattle.text_forms.proofs.NamesRead.{client_named-client_text, demux_named-demux_text, slot_named-slot_text}
use Rattle.text_forms.proofs.laws.script_names_are_read_again.Goals as goal

pub returns-clause-clients : goal.returns-clause-clients
returns-clause-clients c client few = client_named-client_text client few

pub returns-clause-nodes : goal.returns-clause-nodes
returns-clause-nodes c node few = demux_named-demux_text node few

pub returns-clause-slots : goal.returns-clause-slots
returns-clause-slots c slot few = slot_named-slot_text slot few
