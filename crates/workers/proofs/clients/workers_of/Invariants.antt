use Rattle.workers.proofs.Imports.{◌≡◌, ℕ, length, map, Some, ClientWorker, IsFreshWorker}
use Rattle.std.specs.Prelude.{slice_get}
use Rattle.workers.proofs.clients.workers_of.Given as goal

abbrev pub invariant-callers : goal.invariant-callers
invariant-callers l = record {
  are : map (λ w. w.client) l.workers.items ≡ l.yielded;
  number : l.number ≡ length l.workers.items;
  each : (c : ℕ) (w : ClientWorker) → slice_get l.workers.items c ≡ Some w → IsFreshWorker l.script c w;
}
