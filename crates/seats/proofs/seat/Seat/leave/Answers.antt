use Rattle.seats.proofs.Imports.{rules, arith, ◌≢◌, sym, subst, refl, ℕ, true, Some, slice_get, dite, ℕ_discrete, HasLeft}
use Rattle.seats.proofs.Doing.{closings_none, closings_more}
use Rattle.seats.proofs.Closing.{closes_none, closes_more}
use Rattle.seats.proofs.Going.{goes_self, goes_trans}
use Rattle.seats.proofs.seat.Seat.leave.Goals as goal

pub nodes-init : goal.nodes-init
nodes-init g c = record {
  fit = c.requires.fit;
  goes = goes_self c.args.self.now;
  made = search rules;
  left = search rules;
  told = search rules;
  room = search rules;
  did = closings_none c.args.self.now;
  held = closes_none c.args.self.now c.args.self.now refl;
  fewer = λ i held. held;
  free = λ i low. absurd (omega arith);
  gone = λ i low. absurd (omega arith);
}

pub nodes-preserved : goal.nodes-preserved
nodes-preserved g c =
    let v = c.nodes.invariant in let e = c.let_go.ensures in
    record {
      fit = e.fit;
      goes = goes_trans c.args.self.now c.nodes.self c.let_go.new.self v.goes e.goes;
      made = let a = v.made in let b = e.few.0 in omega (arith, a, b);
      left = let a = v.left in let b = e.few.1 in omega (arith, a, b);
      told = let a = v.told in let b = e.told in omega (arith, a, b);
      room = search rules;
      did = closings_more c.nodes.node _ c.args.self.now c.nodes.self c.let_go.new.self refl v.did e.did;
      held = closes_more c.args.self.now c.nodes.self c.let_go.new.self v.goes e.goes v.held e.held;
      fewer = λ i held. v.fewer i (e.fewer i held);
      free = λ i low. dite (ℕ_discrete i c.nodes.node)
          (λ here. subst (λ (n : ℕ). slice_get c.let_go.new.self.held n ≢ Some true) (sym here) e.free)
          (λ more held. v.free i (omega arith) (e.fewer i held));
      gone = λ i low. dite (ℕ_discrete i c.nodes.node)
          (λ here. subst (λ (n : ℕ). HasLeft n c.let_go.new.self.client) (sym here) e.left)
          (λ more. e.still i (v.gone i (omega arith)));
    }

pub let_go-requires-clause-room : goal.let_go-requires-clause-room
let_go-requires-clause-room g c held =
    let v = c.nodes.invariant in let low = c.nodes-test.true in let r = c.requires.room c.nodes.node (omega (arith, low)) (v.fewer c.nodes.node held) in
    let m = r.made in let o = r.outcomes in let l = r.left in let made = v.made in let told = v.told in let left = v.left in let a = v.room.0 in let b = v.room.1 in
    record { made = omega (arith, low, m, made, a); outcomes = omega (arith, low, o, told, b); left = omega (arith, low, l, left) }
