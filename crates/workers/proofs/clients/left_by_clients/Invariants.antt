use Rattle.workers.proofs.Imports.{◌≡◌, ℕ, List, length, map, Some, Outcome, ClientWorker, AreOutcomesOf}
use Rattle.std.specs.Prelude.{slice_get}
use Rattle.workers.proofs.clients.left_by_clients.Given as goal

abbrev pub invariant-workers : goal.invariant-workers
invariant-workers l = record {
  clients : l.clients.items ≡ map (λ w. w.client) l.yielded;
  logs : map (λ log. log.items) l.logs.items ≡ map (λ w. w.log.items) l.yielded;
  outcomes : length l.outcomes.items ≡ length l.yielded;
  each : (c : ℕ) (w : ClientWorker) (told : List Outcome) → slice_get l.yielded c ≡ Some w → slice_get (map (λ those. those.items) l.outcomes.items) c ≡ Some told → AreOutcomesOf w.core told;
}
