use Rattle.client_script.proofs.Splitting.{split-found}
use Rattle.client_script.proofs.laws.the_script_part_ends_with_its_line_stream.Goals as goal

pub returns : goal.returns
returns c first others n within s = split-found first others n within s
