use Rattle.text_forms.proofs.WordsRead.{input_named-input_text, output_named-output_text}
use Rattle.text_forms.proofs.laws.words_are_read_again.Goals as goal

pub returns-clause-inputs : goal.returns-clause-inputs
returns-clause-inputs c input = input_named-input_text input

pub returns-clause-outputs : goal.returns-clause-outputs
returns-clause-outputs c output = output_named-output_text output
