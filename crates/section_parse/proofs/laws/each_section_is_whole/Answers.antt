use Rattle.section_parse.proofs.WholeLists.{are_whole}
use Rattle.section_parse.proofs.laws.each_section_is_whole.Goals as goal

pub returns : goal.returns
returns c = are_whole
