-- That what a run left fits the types of the code, by which a report of it is one that can be read.
use Rattle.std.specs.Prelude.{List}
use Rattle.emu_top.specs.Imports.{All, IsEntryInRange, IsOutcomeInRange, IsRowInRange, IsTallyInRange, LogEntry, Outcome, StreamHead}

-- each number of the stream, of what became of the commands and of the entries is one of its type
pub record AreFitting (head : StreamHead) (outcomes : List (List Outcome)) (histories : List (List LogEntry)) : Type 0 where
  pub tally : IsTallyInRange head.tally
  pub rows : All IsRowInRange head.rows
  pub commands : All (All IsOutcomeInRange) outcomes
  pub entries : All (All IsEntryInRange) histories
