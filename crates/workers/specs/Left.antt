-- What `work` answers.
use Rattle.std.specs.Prelude.{◌≡◌, ℕ, Bool, true, List, length, map, slice_get, Some, None}
use Rattle.workers.specs.Imports.{Caller, Fed, LogEntry, Outcome, PacketSize, Scripted, clients_in, cut, head_of, next_event, outcomes, replies, told_entry, told_head}
use Rattle.workers.specs.declared.left.LeftByThreads.{LeftByThreads}
use Rattle.workers.specs.Named.{is_named}
use Rattle.workers.specs.Logged.{HasCalled}
use Rattle.workers.specs.Feeding.{HasFedAll}

-- A client of a script has made these calls, and its commands are through, with these outcomes.
pub record HasWorked (script : Scripted) (client : ℕ) (may : ℕ → Bool) (c : Caller) (log : List LogEntry)
    (told : List Outcome) : Type 0 where
  pub called : HasCalled script client may c log
  pub ends : next_event client script (replies log) ≡ None
  pub outcomes : told ≡ outcomes client script (replies log)

-- The feeder has passed the whole stream through the nodes that are among these, and called no other; all that the script can
-- name are among them. Each client of the script has done its commands to their end.
pub record AreWorked (script : Scripted) (among : ℕ → Bool) (most : ℕ) (may : ℕ → Bool) (stream : List (List ℕ))
    (feeder : Caller)
    (feeding : List Fed) (others : List Caller) (books : List (List LogEntry))
    (told : List (List Outcome)) : Type 0 where
  pub fed : HasFedAll among most may stream feeder feeding
  pub named : (node : ℕ) → is_named script.lines node ≡ true → among node ≡ true
  pub clients : length others ≡ clients_in script
  pub logs : length books ≡ clients_in script
  pub outcomes : length told ≡ clients_in script
  pub each : (c : ℕ) (client : Caller) (log : List LogEntry) (became : List Outcome) → slice_get others c ≡ Some client
      → slice_get books c ≡ Some log → slice_get told c ≡ Some became
      → HasWorked script c may client log became

-- This is what the threads of a run of a script leave over a stream of these bytes, whose packets take up so many each,
-- and in which the source failed or not; the feeder has called just the nodes that the script can name.
pub record IsLeftBy (script : Scripted) (most : ℕ) (may : ℕ → Bool) (size : PacketSize) (stream : List ℕ)
    (left : LeftByThreads) : Type 0 where
  pub worked : AreWorked script (is_named script.lines) most may
      (cut size stream).packets left.feeder left.feeding.items left.clients.items
      (map (λ log. map told_entry log.items) left.logs.items) (map (λ those. those.items) left.outcomes.items)
  pub head : told_head left.head ≡ head_of size stream left.head.read_fault
