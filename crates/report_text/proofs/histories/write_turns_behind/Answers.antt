use Rattle.std.proofs.Common.{refl, arith}
use Rattle.report_text.proofs.Pieces.{some_nothing, on_any_err}
use Rattle.report_text.proofs.Writing.{behind_more, behind_breaks, behind_done}
use Rattle.report_text.proofs.histories.write_turns_behind.Goals as goal

pub turns-init : goal.turns-init
turns-init g c = record { step = c.requires.step; adds = some_nothing _ (λ node. refl); steady = refl }

pub turns-preserved : goal.turns-preserved
turns-preserved g c = record {
  step = omega (arith, c.turns-test.true);
  adds = behind_more c.args.feeding.now c.args.told c.args.step c.turns.next (omega (arith, c.turns-test.true)) c.turns.invariant.adds c.in_ok-write_turn.ensures.adds;
  steady = let k = c.in_ok-write_turn.ensures.cause in omega arith;
}

pub returns-in_err-write_turn-clause-part : goal.returns-in_err-write_turn-clause-part
returns-in_err-write_turn-clause-part g c =
    on_any_err c.from_residual.result (behind_breaks c.args.feeding.now c.args.told c.args.step c.turns.next (omega (arith, c.turns-test.true)) c.turns.invariant.adds c.in_err-write_turn.ensures.part)

pub returns-clause-adds : goal.returns-clause-adds
returns-clause-adds g c = behind_done c.args.feeding.now c.args.told c.args.step c.turns.next (omega (arith, c.turns-test.false)) c.turns.invariant.adds
