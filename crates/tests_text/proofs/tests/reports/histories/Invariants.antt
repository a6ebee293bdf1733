use Rattle.std.proofs.Common.{◌≡◌, length}
use Rattle.tests_text.proofs.tests.reports.histories.Given as goal

abbrev pub invariant-loop : goal.invariant-loop
invariant-loop l = record {
  count : length l.nodes.items ≡ l.counter;
}
