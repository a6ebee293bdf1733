use Rattle.text_forms.proofs.HexPairs.{hex_byte-byte_text}
use Rattle.text_forms.proofs.HexWords.{hex_bytes-hex_text}
use Rattle.text_forms.proofs.laws.bytes_are_read_again.Goals as goal

pub returns-clause-one : goal.returns-clause-one
returns-clause-one c byte small = hex_byte-byte_text byte small

pub returns-clause-word : goal.returns-clause-word
returns-clause-word c most bytes few all = hex_bytes-hex_text most bytes few all
