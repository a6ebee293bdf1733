use Rattle.feed_pull.proofs.Imports.{◌≡◌, ◌≢◌, ◌+◌, ◌<◌, ◌≤◌, length, Going, Gathers, Follows, ReadsNothing, work}
use Rattle.feed_pull.proofs.puller.Puller.fill.Given as goal

abbrev pub invariant-gathering : goal.invariant-gathering
invariant-gathering g l = record {
  gathers : Gathers (g.S.Source.end l.initial.source) (g.S.Source.end l.source) l.initial.self l.self;
  follows : Follows l.initial.self.reading l.self.reading (g.S.Source.end l.initial.source) (g.S.Source.end l.source);
  late : l.initial.self.found_before_last_read < l.initial.self.given + l.most → l.self.found_before_last_read < l.initial.self.given + l.most;
  full : l.most ≤ length l.initial.self.waiting → (g.S.Source.end l.source ≡ g.S.Source.end l.initial.source) × (l.self ≡ l.initial.self);
  fits : length l.initial.self.waiting ≤ l.most → length l.self.waiting ≤ l.most;
  room : l.self.room ≡ l.most;
  stopped : l.initial.self.reading ≢ Going → ReadsNothing l.initial.self l.self;
}

abbrev pub decreases-gathering : goal.decreases-gathering
decreases-gathering g l = work l.self
