-- How many calls a client makes in a run by threads (this project's own).
use Rattle.std.specs.Prelude.{◌≡◌, ◌⊎◌, ◌<◌, ◌≤◌, ◌+◌, ◌*◌, ◌^◌, ℕ, Bool, true, List, [], ◌∷◌, ◌++◌, length, slice_get, Some, All}
use Rattle.workers.specs.Imports.{AreNumbered, Caller, DEMUX_NODES, Entry, Fed, HaveHistories, IsPacket, IsTooLong, LogEntry, MOST_CALLS, Scripted, all_commands, bytes_written, clients_in, ended, most_calls}
use Rattle.workers.specs.Named.{is_named}
use Rattle.workers.specs.Logged.{HasCalled}
use Rattle.workers.specs.Feeding.{HasFed}

-- A moment of a run by threads, or its end: the feeder has passed these packets through the nodes that are among these, with all
-- that the script can name, and the end of the stream or not yet; each client has made the calls of its log; and each node has a
-- legal history of just the calls of all of them. The script's lines name the writes of each client in their order.
pub record IsRunning (script : Scripted) (among : ℕ → Bool) (most : ℕ) (may : ℕ → Bool) (packets : List (List ℕ))
    (behind : List Entry)
    (feeder : Caller) (feeding : List Fed) (others : List Caller) (books : List (List LogEntry)) : Type 0 where
  pub numbered : AreNumbered script
  pub are_packets : All IsPacket packets
  pub end : (behind ≡ []) ⊎ (behind ≡ ended ∷ [])
  pub fed : HasFed among most may packets behind feeder feeding
  pub named : (node : ℕ) → is_named script.lines node ≡ true → among node ≡ true
  pub clients : length others ≡ clients_in script
  pub logs : length books ≡ clients_in script
  pub called : (c : ℕ) (client : Caller) (log : List LogEntry) → slice_get others c ≡ Some client
      → slice_get books c ≡ Some log → HasCalled script c may client log
  pub nodes : (c : ℕ) (log : List LogEntry) → slice_get books c ≡ Some log → All (λ e. e.node ≤ DEMUX_NODES) log
  pub histories : HaveHistories (others ++ feeder ∷ [])

-- At each moment of a run by threads, in whatever order the threads act, a client has made no more calls than the
-- commands of all clients and the bytes of the packets and of all writes allow.
abbrev pub CallsAreWithinBudget : Type 0
CallsAreWithinBudget =
    (script : Scripted) (among : ℕ → Bool) (most : ℕ) (may : ℕ → Bool) (packets : List (List ℕ)) (behind : List Entry)
    (feeder : Caller) (feeding : List Fed) (others : List Caller) (books : List (List LogEntry))
    → IsRunning script among most may packets behind feeder feeding others books
    → (c : ℕ) (log : List LogEntry) → slice_get books c ≡ Some log
    → length log ≤ most_calls (all_commands script.lines) (188 * length packets + bytes_written script)

-- Where commands and bytes are fewer than 2^32 together, no client comes to 549,755,813,888 calls.
abbrev pub FewBytesAreFewCalls : Type 0
FewBytesAreFewCalls =
    (script : Scripted) (among : ℕ → Bool) (most : ℕ) (may : ℕ → Bool) (packets : List (List ℕ)) (behind : List Entry)
    (feeder : Caller) (feeding : List Fed) (others : List Caller) (books : List (List LogEntry))
    → IsRunning script among most may packets behind feeder feeding others books
    → all_commands script.lines + 188 * length packets + bytes_written script < 2 ^ 32
    → (c : ℕ) (log : List LogEntry) → slice_get books c ≡ Some log → length log < MOST_CALLS

-- Where a client comes to 549,755,813,888 calls, the run is too long: its cause is in the commands and in
-- the bytes of which the packets were cut and those of all writes.
abbrev pub ManyCallsAreTooLong : Type 0
ManyCallsAreTooLong =
    (script : Scripted) (among : ℕ → Bool) (most : ℕ) (may : ℕ → Bool) (packets : List (List ℕ)) (behind : List Entry)
    (feeder : Caller) (feeding : List Fed) (others : List Caller) (books : List (List LogEntry))
    → IsRunning script among most may packets behind feeder feeding others books
    → (start : ℕ) (ahead taken : List ℕ) → 188 * length packets ≤ length ahead + length taken
    → (c : ℕ) (log : List LogEntry) → slice_get books c ≡ Some log → length log ≡ MOST_CALLS
    → IsTooLong script start (length log) ahead taken
