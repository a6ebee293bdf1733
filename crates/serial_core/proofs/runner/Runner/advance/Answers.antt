use Rattle.serial_core.proofs.Imports.{◌^◌, ◌≡◌, ap, subst, ◌∙◌, ℕ, List, [], ◌∷◌, ◌++◌, arith, Response, Scripted, IsAfter, Run, called, replies_of, reply_to, after_waiting, one_if}
use Rattle.serial_core.proofs.Moving.{moves_then}
use Rattle.serial_core.proofs.Commanding.{moves_called, one_if_small}
use Rattle.serial_core.proofs.runner.Runner.advance.Goals as goal

pub returns-clause-moves : goal.returns-clause-moves
returns-clause-moves g c =
    let client = c.args.client in
    let e = c.args.event in
    let batch = c.args.batch in
    let old = c.args.core.now in
    let new = c.call.new.core in
    let batches = old.plays in
    let P : Run → Type 0 = λ r. (script : Scripted) (replies : List Response) → IsAfter client script replies old → IsAfter client script (replies ++ reply_to client batches e r ∷ []) new in
    let k = c.in_ok-call.ensures in
    moves_then _ _ _ _ _ _ _ _ _
    (λ (r s t : Run) (a : (who : ℕ) (script : Scripted) → IsAfter who script (replies_of who r) old → s ≡ after_waiting script batch who r) (b : (t ≡ called client batches e s) × P s) (script : Scripted) (after : IsAfter client script (replies_of client r) old).
    let w = a client script after in
    (b.0 ∙ ap (called client batches e) w, subst (λ x. IsAfter client script (replies_of client r ++ reply_to client batches e x ∷ []) new) w (b.1 script (replies_of client r) after)))
    c.in_ok-wait.ensures.moves
    (moves_called _ c.wait.new.self c.call.new.self client batches e P c.in_ok-wait.ensures.moves.sound k.counted k.same k.at (λ r moment at script replies after. k.core r script replies moment at after))

pub call-requires-clause-few : goal.call-requires-clause-few
call-requires-clause-few g c =
    let m = c.in_ok-wait.ensures.made (2 ^ 43) c.requires.made in
    let given = c.in_ok-wait.ensures.moves.sound.given in
    omega (arith, m, given, one_if_small c.wait.new.self.nodes.has_ended)

pub returns-clause-made : goal.returns-clause-made
returns-clause-made g c calls made =
    let m = c.in_ok-wait.ensures.made calls made in
    let same = ap one_if c.in_ok-call.ensures.same in
    omega (arith, m, c.in_ok-call.ensures.made, same)
