use Rattle.client_script.proofs.Imports.{refl, value_after, word_in, want_text, name_text, target_text, section_text, pes_text, want_arguments_text, request_text, arguments_text, bytes_text, command_text, line_text}
use Rattle.std.specs.Fmt.{digits}
use Rattle.filter_match.specs.Match.{numbers_below}
use Rattle.dmx_calls.specs.Names.{input_text, output_text}
use Rattle.client_script.proofs.examples.words.Goals as goal

pub returns-clause-one : goal.returns-clause-one
unfolding value_after word_in
returns-clause-one c = (refl, refl, refl)

pub returns-clause-spellings : goal.returns-clause-spellings
unfolding digits numbers_below input_text output_text want_text name_text target_text section_text pes_text want_arguments_text request_text arguments_text bytes_text command_text line_text
returns-clause-spellings c = refl
