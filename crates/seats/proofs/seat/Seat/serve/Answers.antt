use Rattle.seats.proofs.Imports.{◌≤◌, ◌^◌, arith, TableId, IsFit, Seat, calls_made, commands_done, arith, ◌≡◌, Bool, true, List, [], Some, sym, subst, slice_get, Caller, MakesCalls, HasLeft, HasAnsweredAll}
use Rattle.seats.proofs.Hands.{all_calls, all_told, hands_none, hands_turned, hands_next, answered_to, made_to, nodes_to, given_more}
use Rattle.seats.proofs.Going.{made_long}
use Rattle.seats.proofs.seat.Seat.serve.Goals as goal

pub requests-init : goal.requests-init
requests-init g c = record {
  fit = c.requires.ready.ready.fit;
  room = c.requires.ready.ready.room;
  hands = hands_none g.T.Source.end g.T.Sink.end (g.C.Clock.may_give c.args.clock.now) (g.C.Clock.may_give_behind c.args.clock.now) g.J.Journal.took c.args.at.now.line c.args.at.now.journal c.args.self.now c.requires.ready.handed
      (g.met.J.Journal.took_none c.args.at.now.journal) c.requires.ready.none c.requires.ready.told c.requires.ready.ready.marked;
}

-- so few calls and commands are behind it
few : (locks : List TableId) (s : Seat) → IsFit locks s → (calls_made s ≤ 2 ^ 40) × (commands_done s ≤ 2 ^ 40)
few locks s fit = let a = fit.left in let b = fit.done in let c = made_long s in (omega (arith, a, c), omega (arith, a, b))

pub hand_over_last-requires : goal.hand_over_last-requires
hand_over_last-requires g c = record { few = few c.args.adapter.now c.leave.new.self c.leave.ensures.fit }

pub returns-then-not-turn : goal.returns-then-not-turn
returns-then-not-turn g c =
    let h = c.requests.invariant.hands in let e = c.hand_over_last.ensures in
    let answers = answered_to g.T.Source.end g.T.Sink.end (g.C.Clock.may_give c.args.clock.now) (g.C.Clock.may_give_behind c.args.clock.now) g.J.Journal.took c.args.at.now.line c.args.at.now.journal c.args.self.now.client c.requests.at.line c.requests.at.journal c.requests.self h c.turn.new.line c.turn.new.self c.leave.new.self c.turn.result c.turn.ensures.turned c.if-not-turn.true c.turn.ensures.goes c.leave.ensures.did c.leave.ensures.goes (record { held = c.leave.ensures.held; left = c.leave.ensures.left }) in
    let made = made_to g.T.Source.end g.T.Sink.end (g.C.Clock.may_give c.args.clock.now) (g.C.Clock.may_give_behind c.args.clock.now) g.J.Journal.took c.args.at.now.line c.args.at.now.journal c.args.self.now.client c.requests.at.line c.requests.at.journal c.requests.self h c.turn.new.self c.leave.new.self c.turn.ensures.goes c.leave.ensures.goes in
    record {
      fit = e.fit c.args.adapter.now c.leave.ensures.fit;
      calls = all_calls h.handed c.leave.new.self;
      made = subst (λ (k : Caller). MakesCalls 0 c.args.self.now.client (all_calls h.handed c.leave.new.self) k) (sym e.client) made;
      nodes = nodes_to g.T.Source.end g.T.Sink.end (g.C.Clock.may_give c.args.clock.now) (g.C.Clock.may_give_behind c.args.clock.now) g.J.Journal.took c.args.at.now.line c.args.at.now.journal c.args.self.now.client c.requests.at.line c.requests.at.journal c.requests.self h c.leave.new.self c.leave.ensures.fit.nodes;
      told = all_told h.said c.leave.new.self;
      answers = subst (λ (k : Caller). HasAnsweredAll g.T.Source.end g.T.Sink.end (g.C.Clock.may_give c.args.clock.now) (g.C.Clock.may_give_behind c.args.clock.now) c.args.at.now.line c.turn.new.line c.args.self.now.client k [] (all_calls h.handed c.leave.new.self) [] (all_told h.said c.leave.new.self)) (sym e.client) answers;
      given = given_more g.T.Source.end g.T.Sink.end (g.C.Clock.may_give c.args.clock.now) (g.C.Clock.may_give_behind c.args.clock.now) g.J.Journal.took c.args.at.now.line c.args.at.now.journal c.args.self.now.client c.requests.at.line c.requests.at.journal c.requests.self h c.hand_over_last.new.journal c.leave.new.self
          (λ xs ys os ps. g.met.J.Journal.took_both c.args.at.now.journal c.requests.at.journal c.hand_over_last.new.journal xs ys os ps) e.took;
      left = λ node low. subst (HasLeft node) (sym e.client) (c.leave.ensures.left node low);
    }

pub hand_over-requires : goal.hand_over-requires
hand_over-requires g c = record { few = few c.args.adapter.now c.turn.new.self c.turn.ensures.fit }

pub requests-preserved : goal.requests-preserved
requests-preserved g c =
    let e = c.hand_over.ensures in
    let h = hands_turned g.T.Source.end g.T.Sink.end (g.C.Clock.may_give c.args.clock.now) (g.C.Clock.may_give_behind c.args.clock.now) g.J.Journal.took c.args.at.now.line c.args.at.now.journal c.args.self.now.client c.requests.at.line c.requests.at.journal c.requests.self
    c.requests.invariant.hands c.turn.new.line c.turn.new.self c.turn.result c.turn.ensures.turned c.if-not-turn.false c.turn.ensures.goes in
    record {
      fit = e.fit c.args.adapter.now c.turn.ensures.fit;
      room = λ node low held. e.room 66 (c.turn.ensures.room node low (subst (λ (l : List Bool). slice_get l node ≡ Some true) e.held held));
      hands = hands_next g.T.Source.end g.T.Sink.end (g.C.Clock.may_give c.args.clock.now) (g.C.Clock.may_give_behind c.args.clock.now) g.J.Journal.took c.args.at.now.line c.args.at.now.journal c.args.self.now.client c.turn.new.line c.requests.at.journal c.turn.new.self h c.hand_over.new.journal c.hand_over.new.self
          (λ xs ys os ps. g.met.J.Journal.took_both c.args.at.now.journal c.requests.at.journal c.hand_over.new.journal xs ys os ps)
          c.hand_over.result e.took e.none e.kept e.count e.client e.held c.turn.ensures.fit.nodes;
    }
