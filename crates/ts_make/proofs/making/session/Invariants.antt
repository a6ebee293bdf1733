use Rattle.std.proofs.Common.{◌≡◌, ◌++◌}
use Rattle.ts_make.specs.Script.{script}
use Rattle.ts_make.specs.Made.{generator, packets}
use Rattle.ts_make.specs.Inside.Counting.{counters_of}
use Rattle.ts_make.proofs.making.session.Given as goal

abbrev pub invariant-packets : goal.invariant-packets
invariant-packets l = record {
  words : l.words ≡ generator l.number l.place;
  counters : l.counters ≡ counters_of l.number l.place;
  bytes : l.bytes.items ≡ script ++ packets l.number l.place;
}
