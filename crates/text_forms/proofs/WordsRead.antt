-- The words of inputs and outputs are read again, and have no space.
use Rattle.text_forms.proofs.Imports.{◌≡◌, refl, Some, Input, Output, input_text, output_text, input_named, output_named}
use Rattle.dmx_calls.specs.declared.params.Input.TheVariants as input
use Rattle.dmx_calls.specs.declared.params.Output.TheVariants as output

pub input_named-input_text : (i : Input) → input_named (input_text i) ≡ Some i
unfolding input_named input_text
input_named-input_text input.Frontend = refl
input_named-input_text input.Dvr = refl

pub output_named-output_text : (o : Output) → output_named (output_text o) ≡ Some o
unfolding output_named output_text
output_named-output_text output.Decoder = refl
output_named-output_text output.Tap = refl
output_named-output_text output.TsTap = refl
output_named-output_text output.TsdemuxTap = refl
