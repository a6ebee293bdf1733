use Rattle.report_text.proofs.Imports.{◌≡◌, length, refl, arith, on_ok_weaker, on_err_weaker}
use Rattle.report_text.proofs.Pieces.{some_nothing, on_any_err}
use Rattle.report_text.proofs.Writing.{entries_more, entries_break, turns_break, entries_done, end_breaks}
use Rattle.report_text.proofs.histories.write_entries.Goals as goal

pub calls-init : goal.calls-init
calls-init g c = record { step = omega arith; adds = some_nothing _ (λ node. refl); steady = refl }

pub calls-preserved : goal.calls-preserved
calls-preserved g c = record {
  step = c.in_ok-step.ensures.step;
  adds = entries_more c.args.feeding.now c.args.calls.now c.calls.told c.calls.step c.in_ok-step.step c.index-calls-told.result c.calls-test.true c.index-calls-told.is c.calls.invariant.adds c.in_ok-step.ensures.adds c.in_ok-write_entry.ensures.adds;
  steady = let k = c.in_ok-step.ensures.cause in let e = c.in_ok-write_entry.ensures.cause in omega arith;
}

pub returns-in_err-step-clause-part : goal.returns-in_err-step-clause-part
returns-in_err-step-clause-part g c =
    on_any_err c.from_residual.result (turns_break c.args.feeding.now c.args.calls.now c.calls.told c.calls.step c.index-calls-told.result c.calls-test.true c.index-calls-told.is c.calls.invariant.adds c.in_err-step.ensures.part)

pub returns-in_err-write_entry-clause-part : goal.returns-in_err-write_entry-clause-part
returns-in_err-write_entry-clause-part g c =
    on_any_err c.from_residual-in_err-write_entry.result (entries_break c.args.feeding.now c.args.calls.now c.calls.told c.calls.step c.in_ok-step.step c.index-calls-told.result c.calls-test.true c.index-calls-told.is c.calls.invariant.adds c.in_ok-step.ensures.adds c.in_err-write_entry.ensures.part)

pub returns-clause-adds : goal.returns-clause-adds
returns-clause-adds g c =
    let all : c.calls.told ≡ length c.args.calls.now = omega (arith, c.calls-test.false, c.calls.auto.told-end) in
    on_ok_weaker c.write_turns_behind.result (λ last. entries_done c.args.feeding.now c.args.calls.now c.calls.told c.calls.step all c.calls.invariant.adds last) c.write_turns_behind.ensures.adds

pub returns-clause-part : goal.returns-clause-part
returns-clause-part g c =
    let all : c.calls.told ≡ length c.args.calls.now = omega (arith, c.calls-test.false, c.calls.auto.told-end) in
    on_err_weaker c.write_turns_behind.result (λ last. end_breaks c.args.feeding.now c.args.calls.now c.calls.told c.calls.step all c.calls.invariant.adds last) c.write_turns_behind.ensures.part
