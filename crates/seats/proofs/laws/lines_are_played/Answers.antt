use Rattle.seats.proofs.Spelling.{lines_are_played}
use Rattle.seats.proofs.laws.lines_are_played.Goals as goal

pub returns : goal.returns
returns c = lines_are_played
