use Rattle.report_text.proofs.Imports.{◌∙◌, sym, on_ok_weaker, on_err_weaker}
use Rattle.report_text.proofs.Pieces.{on_any_err}
use Rattle.report_text.proofs.Writing.{history_none, history_some, history_breaks, history_breaks_first}
use Rattle.report_text.proofs.histories.write_history.Goals as goal

pub returns-then-not-is_called-clause-adds : goal.returns-then-not-is_called-clause-adds
returns-then-not-is_called-clause-adds g c = history_none c.args.node c.args.feeding.now c.args.calls.now (sym c.is_called.ensures ∙ c.if-not-is_called.true)

pub returns-in_err-write_node-clause-part : goal.returns-in_err-write_node-clause-part
returns-in_err-write_node-clause-part g c = on_any_err c.from_residual.result (history_breaks_first c.args.node c.args.feeding.now c.args.calls.now (sym c.is_called.ensures ∙ c.if-not-is_called.false) c.in_err-write_node.ensures.part)

pub returns-clause-adds : goal.returns-clause-adds
returns-clause-adds g c =
    on_ok_weaker c.write_entries.result
    (λ last. history_some c.args.node c.args.feeding.now c.args.calls.now (sym c.is_called.ensures ∙ c.if-not-is_called.false) c.in_ok-write_node.ensures.adds (last c.args.node))
    c.write_entries.ensures.adds

pub returns-clause-part : goal.returns-clause-part
returns-clause-part g c =
    on_err_weaker c.write_entries.result
    (λ last. history_breaks c.args.node c.args.feeding.now c.args.calls.now (sym c.is_called.ensures ∙ c.if-not-is_called.false) c.in_ok-write_node.ensures.adds (last c.args.node))
    c.write_entries.ensures.part
