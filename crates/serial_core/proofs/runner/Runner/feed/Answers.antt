use Rattle.serial_core.proofs.Imports.{◌^◌, ◌≡◌, refl, sym, ap, ◌∙◌, ◌-◌, ◌<◌, min, length, arith, Run, fed, turned}
use Rattle.serial_core.proofs.Moving.{drawn_then, moves_none, moves_then, moves_by, ready_on}
use Rattle.serial_core.proofs.Batches.{fed_none, fed_end, fed_step}
use Rattle.serial_core.proofs.runner.Runner.feed.Goals as goal

pub turns-init : goal.turns-init
turns-init g c = record { moves = moves_none _ c.args.self.now _ c.requires.ready.sound (λ r. refl); moment = refl; made = λ calls made. made }

pub turn-requires-clause-made : goal.turn-requires-clause-made
turn-requires-clause-made g c = c.turns.invariant.made (2 ^ 43) c.requires.made

pub turn-requires-clause-ready : goal.turn-requires-clause-ready
turn-requires-clause-ready g c =
    let size : c.min.result ≡ min c.turns.left c.args.batch = c.min.ensures in
    let more : 0 < c.turns.left = omega arith in
    let ready = ready_on _ _ _ _ _ _ c.turns.invariant.moves c.requires.ready in
    record {
      some = omega (arith, size, more, c.requires.ready.some);
      few = omega (arith, size, c.requires.ready.few);
      sound = ready.sound;
    }

pub returns-in_err-passed-clause-draws : goal.returns-in_err-passed-clause-draws
returns-in_err-passed-clause-draws g c = drawn_then _ _ _ _ _ _ _ c.from_residual.result c.turns.invariant.moves c.in_err-passed.ensures.draws

pub returns-then-passed-eq0-clause-moves : goal.returns-then-passed-eq0-clause-moves
returns-then-passed-eq0-clause-moves g c =
    let left = c.turns.left in
    let batch = c.args.batch in
    let none : c.in_ok-passed.passed ≡ 0 = c.if-passed-eq0.true in
    let q : c.min.result ≡ min left batch = c.min.ensures in
    let more : 0 < left = omega arith in
    moves_then _ _ _ _ _ _ _ _ _
    (λ (r s t : Run) (a : fed batch c.args.count r ≡ fed batch left s) (b : (t ≡ turned c.min.result s) × (c.in_ok-passed.passed ≡ min c.min.result (length s.left))).
    let some : 0 < batch = omega (arith, c.requires.ready.some) in
    let empty : length s.left ≡ 0 = omega (arith, b.1, q, none, more, some) in
    b.0 ∙ (sym (fed_end batch c.min.result left s some more empty) ∙ sym a))
    c.turns.invariant.moves c.in_ok-passed.ensures.moves

pub returns-then-passed-eq0-clause-made : goal.returns-then-passed-eq0-clause-made
returns-then-passed-eq0-clause-made g c calls made = c.in_ok-passed.ensures.made calls (c.turns.invariant.made calls made)

pub turns-preserved : goal.turns-preserved
turns-preserved g c =
    let left = c.turns.left in
    let batch = c.args.batch in
    let n = c.in_ok-passed.passed in
    let q : c.min.result ≡ min left batch = c.min.ensures in
    let more : 0 < left = omega arith in
    record {
      moves = moves_then _ _ _ _ _ _ _ _ _
          (λ (r s t : Run) (a : fed batch c.args.count r ≡ fed batch left s) (b : (t ≡ turned c.min.result s) × (n ≡ min c.min.result (length s.left))).
          a ∙ (fed_step batch left n s (omega (arith, c.requires.ready.some)) more (b.1 ∙ ap (λ m. min m (length s.left)) q) (omega arith)
          ∙ ap (fed batch (left - n)) (ap (λ m. turned m s) (sym q) ∙ sym b.0)))
          c.turns.invariant.moves c.in_ok-passed.ensures.moves;
      moment = c.in_ok-passed.ensures.moment ∙ c.turns.invariant.moment;
      made = λ calls made. c.in_ok-passed.ensures.made calls (c.turns.invariant.made calls made);
    }

pub returns-clause-moves : goal.returns-clause-moves
returns-clause-moves g c =
    let left = c.turns.left in
    let batch = c.args.batch in
    let zero : left ≡ 0 = omega arith in
    moves_by _ _ _ _ _ _
    (λ (r s : Run) (a : fed batch c.args.count r ≡ fed batch left s). sym (a ∙ (ap (λ n. fed batch n s) zero ∙ fed_none batch s (omega (arith, c.requires.ready.some)))))
    c.turns.invariant.moves
