use Rattle.report_text.proofs.Imports.{arith, row_text}
use Rattle.report_text.proofs.Pieces.{adds_next, part_next, on_any_err}
use Rattle.report_text.proofs.report.write_rows.Goals as goal

pub rows-preserved : goal.rows-preserved
rows-preserved g c = record {
  adds = adds_next row_text c.args.rows.now c.rows.row-index _ c.rows-test.true c.rows.invariant.adds c.in_ok-write_row.ensures.adds;
  steady = let k = c.in_ok-write_row.ensures.cause in omega arith;
}

pub returns-in_err-write_row-clause-part : goal.returns-in_err-write_row-clause-part
returns-in_err-write_row-clause-part g c =
    on_any_err c.from_residual.result (part_next row_text c.args.rows.now c.rows.row-index _ c.rows-test.true c.rows.invariant.adds c.in_err-write_row.ensures.part)
