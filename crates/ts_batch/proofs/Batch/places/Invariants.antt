use Rattle.ts_batch.proofs.Imports.{◌≡◌, take, false, has_run}
use Rattle.ts_batch.proofs.Batch.places.Given as goal

abbrev pub invariant-runs : goal.invariant-runs
invariant-runs l = has_run l.pid (take l.run-index l.run-items) ≡ false
