use Rattle.report_check.proofs.Imports.{◌≡◌, take, flat_map, writes_of, packets_in, HasPlayed}
use Rattle.report_check.proofs.played.played_with.Given as goal

-- the first writes were made, and their batches are there
abbrev pub invariant-writes : goal.invariant-writes
invariant-writes g l = record {
  played : HasPlayed (take l.write (writes_of l.client l.script.writes)) l.plays;
  packets : l.packets.items ≡ flat_map packets_in l.plays.batches;
}
