use Rattle.std.proofs.Common.{rules}
use Rattle.text_forms.proofs.HexWords.{at_pair}
use Rattle.text_forms.proofs.hex.first_pair.Goals as goal

pub returns-clause-some : goal.returns-clause-some
returns-clause-some c left = at_pair c.args.digits.now c.in_ok-byte.byte left (search rules) (search rules)
