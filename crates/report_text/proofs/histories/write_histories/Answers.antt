use Rattle.report_text.proofs.Imports.{◌≡◌, map, length, refl, arith, told_entry, feeder_acts, woven, history_text, histories_text}
use Rattle.report_text.proofs.Pieces.{some_nothing, on_any_err}
use Rattle.report_text.proofs.Wholes.{writes_more, breaks_at, writes_all}
use Rattle.report_text.proofs.histories.write_histories.Goals as goal

pub nodes-init : goal.nodes-init
nodes-init g c = record { many = λ some. absurd (omega (arith, some)); adds = some_nothing _ refl; steady = refl }

pub nodes-preserved : goal.nodes-preserved
nodes-preserved g c = record {
  many = λ _. c.node.ensures.nodes;
  adds = writes_more history_text histories_text (λ n. refl, λ n x xs. refl) c.args.histories.now c.nodes.node
      (woven c.nodes.node (feeder_acts c.node.result.0.now) (map told_entry c.node.result.1.now)) c.node.ensures.history c.nodes.invariant.adds c.in_ok-write_history.ensures.adds;
  steady = let k = c.in_ok-write_history.ensures.cause in omega arith;
}

pub returns-in_err-write_history-clause-part : goal.returns-in_err-write_history-clause-part
returns-in_err-write_history-clause-part g c =
    on_any_err c.from_residual.result (breaks_at history_text histories_text (λ n. refl, λ n x xs. refl) c.args.histories.now c.nodes.node
    (woven c.nodes.node (feeder_acts c.node.result.0.now) (map told_entry c.node.result.1.now)) c.node.ensures.history c.nodes.invariant.adds c.in_err-write_history.ensures.part)

pub returns-clause-adds : goal.returns-clause-adds
returns-clause-adds g c =
    let many : length c.args.histories.now ≡ 33 = c.nodes.invariant.many (omega (arith, c.nodes-test.false)) in
    writes_all history_text histories_text (λ n. refl, λ n x xs. refl) c.args.histories.now c.nodes.node (omega (arith, many, c.nodes-test.false)) c.nodes.invariant.adds
