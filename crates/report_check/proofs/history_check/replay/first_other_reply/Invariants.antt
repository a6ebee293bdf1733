use Rattle.report_check.proofs.Imports.{◌≡◌, map, take, ◌≢◌, told_entry, NoMemory, brought_from}
use Rattle.std.proofs.Common.{All}
use Rattle.report_check.specs.Playing.{played}
use Rattle.report_check.proofs.history_check.replay.first_other_reply.Given as goal

abbrev pub invariant-entries : goal.invariant-entries
invariant-entries g l = record {
  stands : g.M.Machine.stands_for l.core (played (brought_from l.stream (map (λ p. p.items) l.played)) (map told_entry (take l.entry-index l.entries)));
  answered : All (λ e. e.response ≢ NoMemory) (map told_entry (take l.entry-index l.entries));
  calls : g.M.Machine.entries l.core ≡ l.entry-index;
}
