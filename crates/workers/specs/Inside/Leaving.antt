-- How workers that came to their end are left.
use Rattle.std.specs.Prelude.{◌≡◌, ◌≢◌, ◌⊎◌, ◌++◌, ℕ, List, length, map, slice_get, Option, Some, None}
use Rattle.workers.specs.Imports.{Fed, NoMemory, Outcome, Pulls, Stop, has_failed, head_of, told_head}
use Rattle.workers.specs.declared.client_worker.ClientWorker.{ClientWorker}
use Rattle.workers.specs.declared.feeder_worker.FeederWorker.{FeederWorker}
use Rattle.workers.specs.declared.left.LeftByThreads.{LeftByThreads}
use Rattle.workers.specs.Inside.Begun.{AreOutcomesOf}

-- of two stops, if they are any: none comes of none, want of memory of either, and else it is one of them
pub record GoesFirst (first other stop : Option Stop) : Type 0 where
  pub none : stop ≡ None → (first ≡ None) × (other ≡ None)
  pub memory : stop ≢ Some NoMemory → (first ≢ Some NoMemory) × (other ≢ Some NoMemory)
  pub one : (stop ≡ first) ⊎ (stop ≡ other)

-- the stop of the feeder or of a client: no worker stopped where it is none, and where
-- it isn't want of memory none lacked it
pub record StopsBy (feeder : Option Stop) (clients : List ClientWorker) (stop : Option Stop) : Type 0 where
  pub none : stop ≡ None → (feeder ≡ None)
      × ((k : ℕ) (w : ClientWorker) → slice_get clients k ≡ Some w → w.stop ≡ None)
  pub memory : stop ≢ Some NoMemory → (feeder ≢ Some NoMemory)
      × ((k : ℕ) (w : ClientWorker) → slice_get clients k ≡ Some w → w.stop ≢ Some NoMemory)
  pub one : (stop ≡ feeder) ⊎ ((k : ℕ) × (w : ClientWorker) × (slice_get clients k ≡ Some w) × (stop ≡ w.stop))

-- the feeder with its batches and the stream's head, and the clients with their logs and outcomes
pub record IsLeftByWorkers (f : FeederWorker) (batches : List Fed) (workers : List ClientWorker)
    (left : LeftByThreads) : Type 0 where
  pub feeder : left.feeder ≡ f.feeder
  pub feeding : left.feeding.items ≡ batches
  pub head : (ahead taken : List ℕ) (given : List (List ℕ)) → Pulls ahead taken given f.puller
      → told_head left.head ≡ head_of f.puller.cutting.size (ahead ++ taken) left.head.read_fault
  pub fault : left.head.read_fault ≡ has_failed f.puller.reading
  pub clients : left.clients.items ≡ map (λ v. v.client) workers
  pub logs : map (λ log. log.items) left.logs.items ≡ map (λ v. v.log.items) workers
  pub outcomes : length left.outcomes.items ≡ length workers
  pub each : (c : ℕ) (v : ClientWorker) (told : List Outcome) → slice_get workers c ≡ Some v
      → slice_get (map (λ those. those.items) left.outcomes.items) c ≡ Some told → AreOutcomesOf v.core told
