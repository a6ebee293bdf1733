-- Words, and those that name where packets come from and where items go (this project's own).
use Rattle.std.specs.Prelude.{ℕ, Bool, List, Option, Some, None, nat_eq, if◌then◌else◌, codes}
use Rattle.text_forms.specs.Imports.{Input, Output, pointwise}
use Rattle.dmx_calls.specs.declared.params.Input.TheVariants as input
use Rattle.dmx_calls.specs.declared.params.Output.TheVariants as output

-- whether a word is this text
abbrev pub is_word : (word text : List ℕ) → Bool
is_word word text = pointwise nat_eq word text

-- the input of a word
unfoldable pub input_named : List ℕ → Option Input
input_named word =
    if is_word word (codes "frontend") then Some input.Frontend
    else (if is_word word (codes "dvr") then Some input.Dvr else None)

-- the output of a word
unfoldable pub output_named : List ℕ → Option Output
output_named word =
    if is_word word (codes "decoder") then Some output.Decoder
    else (if is_word word (codes "tap") then Some output.Tap
    else (if is_word word (codes "ts_tap") then Some output.TsTap
    else (if is_word word (codes "tsdemux_tap") then Some output.TsdemuxTap else None)))
