use Rattle.std.proofs.Common.{arith, rules, ◌≡◌, ◌<◌, length, refl, sym, ◌∙◌}
use Rattle.feed_pull.proofs.PullLemmas.{Gathers-none, Gathers-then, Follows-none, Follows-then, ReadsNothing-then, most-waits}
use Rattle.feed_pull.proofs.puller.Puller.fill.Goals as goal

pub gathering-init : goal.gathering-init
gathering-init g c = record {
  gathers = Gathers-none c.args.self.now _ (rw (← c.self.view_is) c.self.invariant.rest);
  follows = Follows-none c.args.self.now.reading _;
  late = λ h. h;
  full = λ _. (refl, refl);
  fits = λ h. h;
  room = c.requires.room;
  stopped = λ _. record { taken = refl; reads = refl };
}

pub gathering-preserved : goal.gathering-preserved
gathering-preserved g c =
    let i = c.gathering.invariant in
    let s = c.step.ensures in
    let room : length c.gathering.self.waiting < c.args.most = search rules in
    let same : c.gathering.self.given ≡ c.args.self.now.given = i.gathers.goes.given in
    record {
      gathers = Gathers-then c.args.self.now c.gathering.self c.step.new.self _ _ _ i.gathers s.gathers;
      follows = Follows-then c.args.self.now.reading c.gathering.self.reading c.step.new.self.reading _ _ _ i.follows s.follows;
      late = λ h. (let k = i.late h in omega (arith, s.late));
      full = λ h. absurd (most-waits c.args.most c.args.self.now c.gathering.self (i.full h).1 h room);
      fits = λ _. omega (arith, s.fits, i.room);
      room = s.room ∙ i.room;
      stopped = λ h. ReadsNothing-then c.args.self.now c.gathering.self c.step.new.self (i.stopped h) (s.stopped (λ e. h (sym (i.follows.stays h) ∙ e)));
    }
