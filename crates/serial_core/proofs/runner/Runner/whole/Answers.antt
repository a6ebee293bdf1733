use Rattle.serial_core.proofs.Imports.{◌≡◌, length, Run, finished, IsFrontBy}
use Rattle.serial_core.proofs.Moving.{drawn_then, moves_then, ready_on}
use Rattle.serial_core.proofs.Lining.{whole_by}
use Rattle.serial_core.proofs.runner.Runner.whole.Goals as goal

pub returns-clause-moves : goal.returns-clause-moves
returns-clause-moves g c =
    moves_then _ _ _ _ _ _ _ _ _
    (λ (r s t : Run) (a : IsFrontBy c.args.batch c.args.lines.now (length c.args.lines.now) c.args.cores.now c.lines.new.cores r s) (b : t ≡ finished c.args.batch s).
    whole_by c.args.batch c.args.lines.now c.args.cores.now c.lines.new.cores r s t a b)
    c.in_ok-lines.ensures.moves c.in_ok-finish.ensures.moves

pub finish-requires-clause-ready : goal.finish-requires-clause-ready
finish-requires-clause-ready g c = ready_on _ _ _ _ _ _ c.in_ok-lines.ensures.moves c.requires.ready

pub returns-in_err-finish-clause-draws : goal.returns-in_err-finish-clause-draws
returns-in_err-finish-clause-draws g c = drawn_then _ _ _ _ _ _ _ _ c.in_ok-lines.ensures.moves c.in_err-finish.ensures.draws
