use Rattle.text_forms.proofs.Decimals.{number_between-decimal}
use Rattle.text_forms.proofs.laws.numbers_are_read_again.Goals as goal

pub returns : goal.returns
returns c least most n small low high = number_between-decimal least most n small low high
