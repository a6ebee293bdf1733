-- A client at work.
use Rattle.std.specs.Prelude.{◌≡◌, ◌≢◌, ◌<◌, ◌≤◌, ◌+◌, ◌^◌, ℕ, Bool, List, length, map, slice_get, Some, None, IsSome}
use Rattle.workers.specs.Imports.{AreOnNodes, Entry, Fits, IsAfter, IsSameCaller, LogEntry, MOST_CALLS, NoMemory, Scripted, TableId, TooLong, View, next_of, replies, told_entry, waits_on}
use Rattle.workers.specs.declared.client_worker.ClientWorker.{ClientWorker}
use Rattle.workers.specs.Logged.{HasCalled}

-- the calls of its log
abbrev pub log_of : ClientWorker → List LogEntry
log_of w = map told_entry w.log.items

-- It has a pass of each of these locks, a log of so many calls as it has made, each on a node, and
-- a core that has taken as many replies.
pub record IsFit (locks : List TableId) (w : ClientWorker) : Type 0 where
  pub fits : Fits locks w.client.passes
  pub who : w.who ≡ w.client.who
  pub left : w.client.left + length w.log.items ≡ 2 ^ 40
  pub steps : w.core.step ≡ length w.log.items
  pub nodes : AreOnNodes w.log.items

-- it has made no more calls than a run allows
pub record MayWork (locks : List TableId) (w : ClientWorker) : Type 0 where
  pub fit : IsFit locks w
  pub few : w.core.step ≤ MOST_CALLS

-- Its log has the calls so far of this client of a script, and its core stands after their replies.
pub record IsWorking (script : Scripted) (client : ℕ) (may : ℕ → Bool) (w : ClientWorker) : Type 0 where
  pub called : HasCalled script client may w.client (log_of w)
  pub after : IsAfter client script (replies (log_of w)) w.core

-- where the client waits, it has seen an entry of another on this node behind its own last one
abbrev pub MayCallNow : (script : Scripted) (client node : ℕ) → ClientWorker → Type 0
MayCallNow script client node w = IsSome (waits_on client script (replies (log_of w)))
    → (last : LogEntry) (i : ℕ) (p : TableId × View Entry) → slice_get (log_of w) i ≡ Some last
    → i + 1 ≡ length w.log.items → slice_get w.client.passes node ≡ Some p → last.place + 1 < length p.1.seen

-- it goes on with the same script, whatever it is
abbrev pub GoesOn : (may : ℕ → Bool) → (old new : ClientWorker) → Type 0
GoesOn may old new = (script : Scripted) (client : ℕ) → IsWorking script client may old → IsWorking script client may new

-- it has looked at nodes, and made no call
pub record HasLooked (locks : List TableId) (old new : ClientWorker) : Type 0 where
  pub same : IsSameCaller old.client new.client
  pub fit : IsFit locks old → IsFit locks new
  pub core : new.core ≡ old.core
  pub log : new.log ≡ old.log
  pub goes_on : (may : ℕ → Bool) → GoesOn may old new

-- It has worked to its end: its commands are through, or memory was refused, or it has made the most calls. Where
-- memory was refused only the caller is still known.
pub record HasCome (may : ℕ → Bool) (locks : List TableId) (old new : ClientWorker) : Type 0 where
  pub same : IsSameCaller old.client new.client
  pub fit : new.stop ≢ Some NoMemory → IsFit locks new
  pub goes_on : new.stop ≢ Some NoMemory → GoesOn may old new
  pub ends : new.stop ≡ None → next_of new.core ≡ None
  pub too_long : (turns : ℕ) → new.stop ≡ Some (TooLong turns) → (turns ≡ MOST_CALLS) × (new.core.step ≡ MOST_CALLS)
