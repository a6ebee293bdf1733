use Rattle.serial_core.proofs.Imports.{◌^◌, ◌≡◌, refl, sym, subst, ◌∙◌, ◌+◌, [], ◌∷◌, ◌++◌, length, arith, Scripted, Batches, IsAfter, Run, called, replies_of, reply_to, after_waiting, ComesBy}
use Rattle.serial_core.proofs.Moving.{drawn_then, moves_none, moves_then, moves_by, ready_on}
use Rattle.serial_core.proofs.Commanding.{comes_none, comes_on, none_by}
use Rattle.serial_core.proofs.runner.Runner.command.Goals as goal

pub calls-init : goal.calls-init
calls-init g c = record {
  moves = moves_none _ c.args.self.now _ c.requires.ready.sound (λ r script clients after. comes_none script c.args.batch c.args.client c.args.line r c.args.core.now clients after);
  moment = refl;
  made = λ calls made. made;
  few = c.requires.calls;
}

pub calls-preserved : goal.calls-preserved
calls-preserved g c =
    let client = c.args.client in
    let batch = c.args.batch in
    let line = c.args.line in
    let e = c.in-Some.event in
    let core = c.calls.core in
    let next = c.advance.new.core in
    let k = c.in_ok-advance.ensures in
    record {
      moves = moves_then _ _ _ _ _ _ _ _ _
          (λ (r s t : Run) (a : ComesBy batch client line c.args.core.now core r s)
          (b : (script : Scripted) → IsAfter client script (replies_of client s) core → (t ≡ called client core.plays e (after_waiting script batch client s)) × IsAfter client script (replies_of client s ++ reply_to client core.plays e (after_waiting script batch client s) ∷ []) next)
          (script : Scripted) (clients : length r.replies ≡ 8) (after : IsAfter client script (replies_of client r) c.args.core.now).
          let come = a script clients after in
          let n = subst (λ (p : Batches). (t ≡ called client p e (after_waiting script batch client s)) × IsAfter client script (replies_of client s ++ reply_to client p e (after_waiting script batch client s) ∷ []) next) come.after.plays (b script come.after) in
          comes_on script batch client line r s t core next e c.requires.client come (sym (c.next_at.ensures.tied client script _ come.after) ∙ c.in-Some.is) n.0 n.1)
          c.calls.invariant.moves k.moves;
      moment = k.moment ∙ c.calls.invariant.moment;
      made = λ calls made. let m = k.made (core.step + calls) (c.calls.invariant.made calls made) in omega (arith, m, k.step);
      few = omega (arith, k.step, c.if-steps-ge-MOST_CALLS.false, c.steps.ensures);
    }

pub advance-requires-clause-made : goal.advance-requires-clause-made
advance-requires-clause-made g c = let m = c.calls.invariant.made (2 ^ 42) c.requires.made in omega (arith, m, c.calls.invariant.few)

pub advance-requires-clause-ready : goal.advance-requires-clause-ready
advance-requires-clause-ready g c = ready_on _ _ _ _ _ _ c.calls.invariant.moves c.requires.ready

pub returns-clause-moves : goal.returns-clause-moves
returns-clause-moves g c =
    moves_by _ _ _ _ _ _
    (λ (r s : Run) (a : ComesBy c.args.batch c.args.client c.args.line c.args.core.now c.calls.core r s)
    (script : Scripted) (clients : length r.replies ≡ 8) (after : IsAfter c.args.client script (replies_of c.args.client r) c.args.core.now).
    let come = a script clients after in
    (come, sym (c.next_at.ensures.tied c.args.client script _ come.after) ∙ none_by c.next_at.result c.in_default.not-Some))
    c.calls.invariant.moves

pub returns-in_err-advance-clause-draws : goal.returns-in_err-advance-clause-draws
returns-in_err-advance-clause-draws g c = drawn_then _ _ _ _ _ _ _ c.from_residual.result c.calls.invariant.moves c.in_err-advance.ensures.draws
