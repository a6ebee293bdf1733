use Rattle.ts_batch.proofs.Imports.{◌≡◌, ◌+◌}
use Rattle.ts_batch.proofs.Batch.add_to.Given as goal

abbrev pub invariant-packets : goal.invariant-packets
invariant-packets g l = l.looks ≡ l.initial.looks + l.counter
