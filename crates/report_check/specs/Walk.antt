-- What it means that the told entries of a client are what its commands ask for (this project's own).
use Rattle.std.specs.Prelude.{◌≡◌, ℕ, ◌+◌, List, [], ◌∷◌, ◌++◌, length, map, filter, nat_eq, slice_get, slice_set, Some, None}
use Rattle.report_check.specs.Imports.{Core, IsAfter, IsEvent, LogEntry, Response, Scripted, next_event, plays_of, replies}

-- ------ the queues of a client

-- the entries of a client on a node, whose caller's number is the client's and one more
abbrev pub of_client : (client : ℕ) → List LogEntry → List LogEntry
of_client client h = filter (λ e. nat_eq e.who (client + 1)) h

-- and on each node
abbrev pub queues_in : (client : ℕ) → List (List LogEntry) → List (List LogEntry)
queues_in client hs = map (of_client client) hs

-- ------ the walk

-- The entries of the queues, taken one by one, are what the client calls after these replies, to the end of its
-- commands: each is the first of its node's queue, and is the call that the client's commands ask for next.
abbrev pub IsRest : (client : ℕ) → Scripted → (done : List Response) → (queues : List (List LogEntry))
    → (made : List LogEntry)
    → Type 0
IsRest client script done queues [] =
    (next_event client script done ≡ None)
    × ((node : ℕ) (q : List LogEntry) → slice_get queues node ≡ Some q → q ≡ [])
IsRest client script done queues (e ∷ made) =
    IsEvent (plays_of client script) (next_event client script done) e × (e.step ≡ length done)
    × ((later : List LogEntry) × (slice_get queues e.node ≡ Some (e ∷ later))
    × IsRest client script (done ++ e.response ∷ []) (slice_set queues e.node later) made)

-- the entries in the queues are what the client calls after these replies, in some order of the nodes
abbrev pub CanRest : (client : ℕ) → Scripted → (done : List Response) → (queues : List (List LogEntry)) → Type 0
CanRest client script done queues = (made : List LogEntry) × IsRest client script done queues made

-- the whole walk of a client, after which its core stands: `made` is its calls in their order
pub record HasWalked (client : ℕ) (script : Scripted) (queues : List (List LogEntry)) (core : Core) : Type 0 where
  pub made : List LogEntry
  pub walk : IsRest client script [] queues made
  pub after : IsAfter client script (replies made) core
