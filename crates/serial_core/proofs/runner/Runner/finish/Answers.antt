use Rattle.serial_core.proofs.Imports.{◌^◌, ◌≡◌, refl, sym, ap, ◌∙◌, ◌<◌, min, length, arith, Run, finished, turned}
use Rattle.serial_core.proofs.Moving.{drawn_then, moves_none, moves_then, ready_on}
use Rattle.serial_core.proofs.Batches.{finished_end, finished_step}
use Rattle.serial_core.proofs.runner.Runner.finish.Goals as goal

pub turns-init : goal.turns-init
turns-init g c = record { moves = moves_none _ c.args.self.now _ c.requires.ready.sound (λ r. refl); made = λ calls made. made }

pub turn-requires-clause-made : goal.turn-requires-clause-made
turn-requires-clause-made g c = c.turns.invariant.made (2 ^ 43) c.requires.made

pub turn-requires-clause-ready : goal.turn-requires-clause-ready
turn-requires-clause-ready g c = ready_on _ _ _ _ _ _ c.turns.invariant.moves c.requires.ready

pub returns-in_err-turn-clause-draws : goal.returns-in_err-turn-clause-draws
returns-in_err-turn-clause-draws g c = drawn_then _ _ _ _ _ _ _ c.from_residual.result c.turns.invariant.moves c.in_err-turn.ensures.draws

pub turns-preserved : goal.turns-preserved
turns-preserved g c =
    let batch = c.args.batch in
    let n = c.in_ok-turn.field-0 in
    let here : 0 < n = omega arith in
    record {
      moves = moves_then _ _ _ _ _ _ _ _ _
          (λ (r s t : Run) (a : finished batch r ≡ finished batch s) (b : (t ≡ turned batch s) × (n ≡ min batch (length s.left))).
          a ∙ (finished_step batch n s (omega (arith, c.requires.ready.some)) b.1 here ∙ ap (finished batch) (sym b.0)))
          c.turns.invariant.moves c.in_ok-turn.ensures.moves;
      made = λ calls made. c.in_ok-turn.ensures.made calls (c.turns.invariant.made calls made);
    }

pub returns-clause-moves : goal.returns-clause-moves
returns-clause-moves g c =
    let batch = c.args.batch in
    let n = c.in_ok-turn.field-0 in
    let none : n ≡ 0 = omega arith in
    moves_then _ _ _ _ _ _ _ _ _
    (λ (r s t : Run) (a : finished batch r ≡ finished batch s) (b : (t ≡ turned batch s) × (n ≡ min batch (length s.left))).
    let some : 0 < batch = omega (arith, c.requires.ready.some) in
    b.0 ∙ (sym (finished_end batch s some (omega (arith, b.1, none, some))) ∙ sym a))
    c.turns.invariant.moves c.in_ok-turn.ensures.moves
