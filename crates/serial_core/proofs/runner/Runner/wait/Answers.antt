use Rattle.serial_core.proofs.Imports.{◌≡◌, sym, ap, ◌∙◌, ℕ, min, length, is_some, Scripted, IsAfter, Run, replies_of, turned}
use Rattle.serial_core.proofs.Moving.{moves_by, moves_none}
use Rattle.serial_core.proofs.Commanding.{wait_turns, wait_none}
use Rattle.serial_core.proofs.runner.Runner.wait.Goals as goal

pub returns-in_ok-turn-clause-moves : goal.returns-in_ok-turn-clause-moves
returns-in_ok-turn-clause-moves g c =
    moves_by _ _ _ _ _ _
    (λ (r s : Run) (a : (s ≡ turned c.args.batch r) × (c.in_ok-turn.field-0 ≡ min c.args.batch (length r.left))) (client : ℕ) (script : Scripted) (after : IsAfter client script (replies_of client r) c.args.core.now).
    wait_turns script c.args.batch client r s (ap is_some (sym (c.waits.ensures.tied client script (replies_of client r) after)) ∙ (sym c.is_some.ensures ∙ c.if-is_some.true)) a.0)
    c.in_ok-turn.ensures.moves

pub returns-else-is_some-clause-moves : goal.returns-else-is_some-clause-moves
returns-else-is_some-clause-moves g c =
    moves_none _ c.args.self.now _ c.requires.ready.sound
    (λ r client script after. wait_none script c.args.batch client r (ap is_some (sym (c.waits.ensures.tied client script (replies_of client r) after)) ∙ (sym c.is_some.ensures ∙ c.if-is_some.false)))
