use Rattle.report_text.proofs.Imports.{arith, outcome_text}
use Rattle.report_text.proofs.Pieces.{adds_next, part_next, on_any_err}
use Rattle.report_text.proofs.report.write_outcomes.Goals as goal

pub outcomes-preserved : goal.outcomes-preserved
outcomes-preserved g c = record {
  adds = adds_next outcome_text c.args.outcomes.now c.outcomes.outcome-index _ c.outcomes-test.true c.outcomes.invariant.adds c.in_ok-write_outcome.ensures.adds;
  steady = let k = c.in_ok-write_outcome.ensures.cause in omega arith;
}

pub returns-in_err-write_outcome-clause-part : goal.returns-in_err-write_outcome-clause-part
returns-in_err-write_outcome-clause-part g c =
    on_any_err c.from_residual.result (part_next outcome_text c.args.outcomes.now c.outcomes.outcome-index _ c.outcomes-test.true c.outcomes.invariant.adds c.in_err-write_outcome.ensures.part)
