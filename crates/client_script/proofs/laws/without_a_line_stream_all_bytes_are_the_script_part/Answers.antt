use Rattle.client_script.proofs.Splitting.{split-missing}
use Rattle.client_script.proofs.laws.without_a_line_stream_all_bytes_are_the_script_part.Goals as goal

pub returns : goal.returns
returns c first others within s all = split-missing first others within s all
