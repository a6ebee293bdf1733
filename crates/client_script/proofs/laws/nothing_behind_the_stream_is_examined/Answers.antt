use Rattle.client_script.proofs.Parting.{grammar-split}
use Rattle.client_script.proofs.laws.nothing_behind_the_stream_is_examined.Goals as goal

pub returns : goal.returns
returns c input = grammar-split input
