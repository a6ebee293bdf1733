use Rattle.report_text.proofs.Pieces.{whole_written}
use Rattle.report_text.proofs.report.write_report.Goals as goal

pub returns-in-Ok-write_lines-clause-whole : goal.returns-in-Ok-write_lines-clause-whole
returns-in-Ok-write_lines-clause-whole g c = whole_written _ c.in-Ok.ensures c.in-Ok-write_lines.ensures.adds
