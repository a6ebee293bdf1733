use Rattle.std.proofs.Common.{◌≡◌, ℕ, ◌+◌, ◌-◌, ◌*◌, ◌^◌, List, [], length}
use Rattle.std.specs.Io.KnownBytes.{Consumes}
use Rattle.feed_pull.specs.Pulling.{Pulls}
use Rattle.feed_pull.specs.Steps.{Follows}
use Rattle.tests_low.proofs.tests.streams.count_all.Given as goal

abbrev pub invariant-all : goal.invariant-all
invariant-all g l = record {
  size : l.puller.cutting.size ≡ l.initial.puller.cutting.size;
  stands : (taken : List ℕ) × (given : List (List ℕ)) × Consumes (g.S.Source.end l.initial.source).left (g.S.Source.end l.source).left taken × (l.count ≡ length given) × Pulls [] taken given l.puller;
  follows : Follows l.initial.puller.reading l.puller.reading (g.S.Source.end l.initial.source) (g.S.Source.end l.source);
}

abbrev pub decreases-all : goal.decreases-all
decreases-all g l = 2 ^ 48 + 65536 - 188 * l.puller.given
