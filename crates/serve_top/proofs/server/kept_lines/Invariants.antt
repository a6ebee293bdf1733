use Rattle.serve_top.proofs.Imports.{◌≡◌, map, All, JournalLine, Rung, KeptJournal, HasNothing}
use Rattle.serve_top.proofs.server.kept_lines.Given as goal

abbrev pub invariant-lines : goal.invariant-lines
invariant-lines g l = record {
  are : map (λ (k : JournalLine _ (Rung _ KeptJournal)). k.line) l.kept.items ≡ l.yielded;
  each : All (λ (k : JournalLine _ (Rung _ KeptJournal)). HasNothing k.journal.kept) l.kept.items;
}
