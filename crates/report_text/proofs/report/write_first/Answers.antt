use Rattle.report_text.proofs.Imports.{◌++◌, codes, tally_text}
use Rattle.report_text.proofs.Pieces.{line_failed}
use Rattle.report_text.proofs.report.write_first.Goals as goal

pub returns-clause-part : goal.returns-clause-part
returns-clause-part g c =
    rw (← c.waiting.view_is) (line_failed _ _ _ _ (codes "dvbemu 1\n" ++ tally_text c.args.head.now.tally) c.write_piece.result c.in-Ok.ensures.items c.write_piece.ensures.part)
