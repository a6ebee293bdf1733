-- The words of inputs and outputs are short.
use Rattle.text_forms.proofs.Imports.{◌≤◌, length, arith, Input, Frontend, Dvr, Output, Decoder, Tap, TsTap, TsdemuxTap, input_text, output_text}

pub short_input : (input : Input) → length (input_text input) ≤ 20
unfolding input_text
short_input Frontend = omega arith
short_input Dvr = omega arith

pub short_output : (output : Output) → length (output_text output) ≤ 20
unfolding output_text
short_output Decoder = omega arith
short_output Tap = omega arith
short_output TsTap = omega arith
short_output TsdemuxTap = omega arith
