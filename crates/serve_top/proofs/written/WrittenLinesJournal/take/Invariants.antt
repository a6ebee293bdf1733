use Rattle.serve_top.proofs.Imports.{map, take, flat_map, told_entry, call_line, HasWritten}
use Rattle.serve_top.proofs.written.WrittenLinesJournal.take.Given as goal

-- the calls so far are written
abbrev pub invariant-calls : goal.invariant-calls
invariant-calls g l = HasWritten g.K.Sink.end (flat_map call_line (map told_entry (take l.call-index l.call-items))) l.fn.self l.self
