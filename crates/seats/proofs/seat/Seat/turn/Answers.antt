use Rattle.seats.proofs.Imports.{rules, ◌≡◌, length, REQUEST_LEN, data_read, call_at}
use Rattle.seats.proofs.Going.{goes_self}
use Rattle.seats.proofs.Turning.{turned_none, turned_one}
use Rattle.seats.proofs.Wiring.{by_ok, by_err, runs_out}
use Rattle.seats.proofs.seat.Seat.turn.Goals as goal

pub returns-then-not-fill-clause-goes : goal.returns-then-not-fill-clause-goes
returns-then-not-fill-clause-goes g c = goes_self c.args.self.now

pub returns-then-not-fill-clause-turned : goal.returns-then-not-fill-clause-turned
returns-then-not-fill-clause-turned g c = turned_none g.T.Source.end g.T.Sink.end (g.C.Clock.may_give c.args.clock.now) (g.C.Clock.may_give_behind c.args.clock.now) c.args.line.now c.fill.new.source c.args.self.now
    (runs_out _ REQUEST_LEN _ _ (c.fill.ensures.short c.if-not-fill.true) (search rules))

pub returns-clause-turned : goal.returns-clause-turned
returns-clause-turned g c =
    let long : length c.fill.new.into ≡ REQUEST_LEN = search rules in
    turned_one g.T.Source.end g.T.Sink.end (g.C.Clock.may_give c.args.clock.now) (g.C.Clock.may_give_behind c.args.clock.now) c.of-ask.result c.now_behind-now.result c.args.self.now c.answer-answered.new.self c.fill.new.into c.answer-answered.result.tell
    (data_read (call_at c.answer-answered.new.self.made.items c.answer-answered.result.at)) c.args.line.now c.fill.new.source c.tell.new.sink
    c.of-ask.ensures.value long c.now_behind-now.ensures.any c.now_behind-now.ensures.behind (c.fill.ensures.whole c.if-not-fill.false) c.answer-answered.ensures.answered c.is_ok.result
    (by_ok c.tell.result _ c.is_ok.result c.is_ok.ensures.value c.tell.ensures.whole)
    (by_err c.tell.result _ c.is_ok.result c.is_ok.ensures.value c.tell.ensures.cut)
