-- The workers before the first call, and what is left of them.
use Rattle.std.specs.Prelude.{◌≡◌, ◌+◌, ◌<◌, ℕ, Bool, List, [], length, map, slice_get, slice_index_or, Some}
use Rattle.workers.specs.Imports.{Caller, Core, IsAfter, Outcome, Response, Scripted, TableId, outcomes}
use Rattle.workers.specs.declared.client_worker.ClientWorker.{ClientWorker}
use Rattle.workers.specs.declared.clients.ClientsLeft.{ClientsLeft}
use Rattle.workers.specs.Inside.Working.{HasCome}

-- the worker of a client of a script that has made no call
pub record IsFreshWorker (script : Scripted) (client : ℕ) (w : ClientWorker) : Type 0 where
  pub who : w.who ≡ client + 1
  pub core : IsAfter client script [] w.core
  pub log : w.log.items ≡ []

-- a worker for each of these clients, which has made no call
pub record AreFreshWorkers (script : Scripted) (clients : List Caller) (workers : List ClientWorker) : Type 0 where
  pub are : map (λ w. w.client) workers ≡ clients
  pub each : (c : ℕ) (w : ClientWorker) → slice_get workers c ≡ Some w → IsFreshWorker script c w

-- each of the workers has worked to its end
pub record HaveCome (may : ℕ → Bool) (locks : List TableId) (old new : List ClientWorker) : Type 0 where
  pub long : length new ≡ length old
  pub each : (i : ℕ) (d : ClientWorker) → i < length old
      → HasCome may locks (slice_index_or old i d) (slice_index_or new i d)

-- these are the outcomes of a core's commands that are through, whatever script it stands for
abbrev pub AreOutcomesOf : Core → List Outcome → Type 0
AreOutcomesOf core told = (client : ℕ) (script : Scripted) (replies : List Response) → IsAfter client script replies core
    → told ≡ outcomes client script replies

-- what is left of the workers: the clients, their logs and the outcomes of their commands, in their order
pub record IsLeftByClients (workers : List ClientWorker) (left : ClientsLeft) : Type 0 where
  pub clients : left.clients.items ≡ map (λ w. w.client) workers
  pub logs : map (λ log. log.items) left.logs.items ≡ map (λ w. w.log.items) workers
  pub outcomes : length left.outcomes.items ≡ length workers
  pub each : (c : ℕ) (w : ClientWorker) (told : List Outcome) → slice_get workers c ≡ Some w
      → slice_get (map (λ those. those.items) left.outcomes.items) c ≡ Some told → AreOutcomesOf w.core told
