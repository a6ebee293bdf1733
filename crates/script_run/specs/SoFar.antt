-- What it means that 33 histories are those of a run that may not be over.
use Rattle.std.specs.Prelude.{◌≡◌, ◌≢◌, ◌<◌, ◌≤◌, ◌+◌, ◌*◌, ℕ, suc, List, ◌++◌, length, map, sum, take, slice_get, Some, None, IsSome, All}
use Rattle.script_run.specs.Imports.{AreNumbered, DEMUX_NODES, IsAccounted, IsLegalFor, IsPacket, LogEntry, Scripted, clients_in, commands_of, filled, next_event, rules_at, waits_on}
use Rattle.script_run.specs.Budget.{all_commands, bytes_written, most_calls}
use Rattle.script_run.specs.IsRun.{AreCalls, ArePlaced, Batch, Step, IsRun, StandsIn, feeding, replies, sources, steps_of}

-- ------ the feeder

-- So far at most so many packets have passed: what the feeder has done on each node is the beginning, or all, of the same
-- calls, which are that these batches pass, each of 1 to `most` packets, and then End.
pub record IsFedSoFar (most packets : ℕ) (hs : List (List LogEntry)) : Type 0 where
  pub batches : List Batch
  pub each_size : All (λ b. (1 ≤ b.size) × (b.size ≤ most)) batches
  pub within : sum (map (λ b. b.size) batches) ≤ packets
  pub on_each : (node : ℕ) (h : List LogEntry) → slice_get hs node ≡ Some h
      → (later : List Step) × (steps_of 0 h ++ later ≡ feeding 0 0 batches)

-- ------ a client

-- whose entries pay for the reads that a client repeats: the feeder's alone, or those of all others
pub data Payers : Type 0 where
  feeder : Payers
  others : Payers

abbrev pub MayPay : Payers → (client who : ℕ) → Type 0
MayPay feeder client who = who ≡ 0
MayPay others client who = who ≢ client + 1

-- an entry stands right behind this one, on its node, and its caller may pay for the client's repeats
abbrev pub IsPaidBehind : Payers → (client : ℕ) → (hs : List (List LogEntry)) → LogEntry → Type 0
IsPaidBehind payers client hs e =
    (x : LogEntry) × StandsIn hs x × (x.node ≡ e.node) × (x.place ≡ e.place + 1) × MayPay payers client x.who

-- A client did just what its commands ask, by the replies that it got: `made` is its calls so far, in their order.
pub record HasDoneSoFar (payers : Payers) (script : Scripted) (client : ℕ)
    (hs : List (List LogEntry)) : Type 0 where
  pub made : List LogEntry
  pub calls : AreCalls script client hs made
  -- between a read that found nothing and its repeat an entry of another stands on that node: it pays for the repeat
  pub paid : (i : ℕ) (e f : LogEntry) → slice_get made i ≡ Some e → slice_get made (suc i) ≡ Some f
      → f.node ≡ e.node → IsSome (waits_on client script (replies (take (suc i) made)))
      → IsPaidBehind payers client hs e

-- ------ the run

-- These histories are those of a run of the script so far: at most the packets of `stream` have passed, and the end
-- of the stream or not yet.
pub record IsSoFar (payers : Payers) (script : Scripted) (most : ℕ) (stream : List (List ℕ))
    (hs : List (List LogEntry)) : Type 0 where
  pub nodes : length hs ≡ DEMUX_NODES + 1
  pub places : ArePlaced script hs
  pub legal : (node : ℕ) (h : List LogEntry) → slice_get hs node ≡ Some h
      → IsLegalFor (rules_at node) (filled (sources script stream) h)
  pub fed : IsFedSoFar most (length stream) hs
  pub clients : (c : ℕ) → c < clients_in script → HasDoneSoFar payers script c hs

-- ------ laws

-- it is over: the whole stream has passed, and its end, and no client has a next call
pub record IsOver {payers : Payers} {script : Scripted} {most : ℕ} {stream : List (List ℕ)}
    {hs : List (List LogEntry)} (s : IsSoFar payers script most stream hs) : Type 0 where
  pub whole : sum (map (λ b. b.size) s.fed.batches) ≡ length stream
  pub ended : (node : ℕ) (h : List LogEntry) → slice_get hs node ≡ Some h → steps_of 0 h ≡ feeding 0 0 s.fed.batches
  pub through : (c : ℕ) (is : c < clients_in script) → next_event c script (replies (s.clients c is).made) ≡ None

-- A run so far that is over is a run, of the same batches and of the same calls.
abbrev pub RunsEnd : Type 0
RunsEnd =
    (payers : Payers) (script : Scripted) (most : ℕ) (stream : List (List ℕ)) (hs : List (List LogEntry))
    (s : IsSoFar payers script most stream hs) → IsOver s
    → (run : IsRun script most stream hs) × (run.fed.batches ≡ s.fed.batches)
    × ((c : ℕ) (is : c < clients_in script) → (run.clients_done c is).made ≡ (s.clients c is).made)

-- the commands whose calls may pay for a client's repeats, and its own
abbrev pub commands_for : Payers → (client : ℕ) → Scripted → ℕ
commands_for feeder client script = length (commands_of client script)
commands_for others client script = all_commands script.lines

-- At each moment of a run a client has made no more calls than these commands, the bytes of the packets and those of all writes
-- allow, where the lines of each client name its writes in their order, each once.
abbrev pub CallsArePaid : Type 0
CallsArePaid =
    (payers : Payers) (script : Scripted) (most : ℕ) (stream : List (List ℕ)) (hs : List (List LogEntry))
    (s : IsSoFar payers script most stream hs) → AreNumbered script → All IsPacket stream
    → (c : ℕ) (is : c < clients_in script)
    → length (s.clients c is).made ≤ most_calls (commands_for payers c script) (188 * length stream + bytes_written script)

-- Each history of a run is accounted.
abbrev pub RunsAreAccounted : Type 0
RunsAreAccounted =
    (script : Scripted) (most : ℕ) (stream : List (List ℕ)) (hs : List (List LogEntry)) → IsRun script most stream hs
    → (node : ℕ) (h : List LogEntry) → slice_get hs node ≡ Some h
    → IsAccounted (rules_at node) (filled (sources script stream) h)
