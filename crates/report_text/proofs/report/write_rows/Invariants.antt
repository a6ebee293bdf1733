use Rattle.report_text.proofs.Imports.{◌≡◌, take, flat_map, Adds, row_text}
use Rattle.report_text.proofs.report.write_rows.Given as goal

abbrev pub invariant-rows : goal.invariant-rows
invariant-rows g l = record {
  adds : Adds (g.K.Sink.end l.initial.sink).written (g.K.Sink.end l.sink).written l.initial.waiting l.waiting (flat_map row_text (take l.row-index l.rows));
  steady : (g.K.Sink.end l.sink).faults ≡ (g.K.Sink.end l.initial.sink).faults;
}
