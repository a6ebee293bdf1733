use Rattle.client_core.proofs.Imports.{take, writes_of, HasPlayed}
use Rattle.client_core.proofs.client.plays_of.Given as goal

-- the first writes were made
abbrev pub invariant-writes : goal.invariant-writes
invariant-writes l = HasPlayed (take l.write (writes_of l.client l.script.writes)) l.plays
