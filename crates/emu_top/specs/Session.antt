-- What is read of a session, and what is to be written for it.
use Rattle.std.specs.Prelude.{◌≡◌, ◌⊎◌, ⊤, ℕ, ◌+◌, ◌<◌, ◌≤◌, ◌^◌, ◌++◌, Bool, true, false, List, [], length, map, filter_map, slice_get, Some, None, Ok, Err, IfSome}
use Rattle.emu_top.specs.Imports.{Consumes, DEMUX_NODES, IsAccountedRun, IsAtEnd, IsRun, IsScript, IsWholeRun, Left, LogEntry, NoMemory as NoMemoryToRun, Of188, Outcome, PacketSize, Pulling, Pulls, ScriptError, ScriptFault, Scripted, SourceEnd, Stop, TooLong as RunTooLong, all_commands, batch_at, batches_by, bytes_written, clients_in, cut, grammar, head_of, histories_in, made, most_calls, outcomes_in, played_writes, plays_of, replies, report_of, sources, split, summary_of, told_by, told_head}
use Rattle.client_script.specs.declared.fault.ScriptError.TheVariants.{Fault, NoMemory as NoMemoryToRead}
use Rattle.serial_core.specs.SerialRun.{Run, IsSerialRun}
use Rattle.report_read.specs.Ranges.{IsInRange}
use Rattle.emu_top.specs.declared.status.Status.{Status}
use Rattle.emu_top.specs.declared.status.Status.TheVariants.{Script, TooLong, ReadFault, NoMemory}

-- these bytes of a session have a whole script without a fault, which says this, and this stream behind it
pub record IsSession (bytes : List ℕ) (script : Scripted) (stream : List ℕ) : Type 0 where
  pub says : grammar (split bytes).script ≡ Ok script
  pub behind : (split bytes).stream ≡ Some stream

-- In this run clients play what they write: what passes each demux node by the calls of a client, in the order of the node's
-- history, are the batches of those of its writes whose poll was answered Ready, each once and in the order of the writes.
abbrev pub PlayWhatTheyWrite : (script : Scripted) (most : ℕ) (packets : List (List ℕ)) (histories : List (List LogEntry))
    → IsRun script most packets histories → Type 0
PlayWhatTheyWrite script most packets histories run =
    (client : ℕ) (is : client < clients_in script) (node : ℕ) (h : List LogEntry) → node < DEMUX_NODES
    → slice_get histories node ≡ Some h
    → batches_by (client + 1) (sources script packets) h
    ≡ filter_map (batch_at (plays_of client script)) (played_writes client script (replies (run.clients_done client is).made))

-- The serial run of the script over the packets of the stream, each of which takes up so many bytes, in batches of this size.
-- It is a run: 33 legal histories, which every packet passes once, in which each client did just what its commands ask; each
-- history is accounted; and clients play what they write.
pub record IsRunOf (batch : ℕ) (size : PacketSize) (script : Scripted) (stream : List ℕ) (run : Run) : Type 0 where
  pub serial : IsSerialRun script batch (cut size stream).packets run
  pub whole : IsAccountedRun script batch (cut size stream).packets run
  pub played : PlayWhatTheyWrite script batch (cut size stream).packets (histories_in run) whole.run

-- ------ what is written

-- What is written for a script and the bytes of a stream. `failed`: reading failed behind the last byte.
abbrev pub Output : Type 1
Output = (script : Scripted) → (stream : List ℕ) → (failed : Bool) → (text : List ℕ) → Type 0

-- on one thread: the report of the serial run, in which each number is one of its type
pub record IsSerialOutput (batch : ℕ) (size : PacketSize) (script : Scripted) (stream : List ℕ) (failed : Bool)
    (text : List ℕ) : Type 0 where
  pub run : Run
  pub ran : IsRunOf batch size script stream run
  pub range : IsInRange (told_by (head_of size stream failed) (outcomes_in script run) (histories_in run))
  pub report : text ≡ report_of (head_of size stream failed) (outcomes_in script run) (histories_in run)

-- By threads: the report of 33 histories that are those of a run of the script over the packets of the stream, in full
-- batches of this size but for the last, at moments that the clock may give. Each history is accounted, the outcomes are
-- those of the clients' commands by the replies in the histories, clients play what they write, and each number that the report
-- tells is one of its type.
pub record IsThreadOutput (batch : ℕ) (size : PacketSize) (may : ℕ → Bool) (script : Scripted) (stream : List ℕ)
    (failed : Bool) (text : List ℕ) : Type 0 where
  pub histories : List (List LogEntry)
  pub outcomes : List (List Outcome)
  pub whole : IsWholeRun script batch may (cut size stream).packets outcomes histories
  pub played : PlayWhatTheyWrite script batch (cut size stream).packets histories whole.run
  pub range : IsInRange (told_by (head_of size stream failed) outcomes histories)
  pub report : text ≡ report_of (head_of size stream failed) outcomes histories

-- the text is the line of sums over the run of the session of a number, whose packets take up their own 188 bytes
pub record IsSums (number batch : ℕ) (text : List ℕ) : Type 0 where
  pub script : Scripted
  pub stream : List ℕ
  pub run : Run
  pub session : IsSession (made number) script stream
  pub ran : IsRunOf batch Of188 script stream run
  pub sums : text ≡ summary_of (head_of Of188 stream false) (histories_in run)

-- ------ sources

-- In what follows `before` and `after` are what a source tells before and after.

-- these bytes were taken, and no read failed
pub record Takes (before after : SourceEnd) (bytes : List ℕ) : Type 0 where
  pub taken : Consumes before.left after.left bytes
  pub steady : after.faults ≡ before.faults

-- whether reading failed, or nothing is left
abbrev pub ReadsTo : (failed : Bool) → (before after : SourceEnd) → Type 0
ReadsTo true before after = before.faults < after.faults
ReadsTo false before after = (after.faults ≡ before.faults) × IsAtEnd after.left

-- the bytes that were taken are those of a session, and this is what its run left
pub record Runs (batch : ℕ) (size : PacketSize) (before after : SourceEnd) (answer : Left) : Type 0 where
  pub bytes : List ℕ
  pub script : Scripted
  pub stream : List ℕ
  pub run : Run
  pub taken : Consumes before.left after.left bytes
  pub reads : ReadsTo answer.head.read_fault before after
  pub session : IsSession bytes script stream
  pub ran : IsRunOf batch size script stream run
  pub histories : answer.histories ≡ histories_in run
  pub outcomes : map (λ those. those.items) answer.outcomes.items ≡ outcomes_in script run
  pub head : told_head answer.head ≡ head_of size stream answer.head.read_fault
  pub range : IsInRange (told_by (head_of size stream answer.head.read_fault) (outcomes_in script run) (histories_in run))

-- the bytes that were taken are those of a session, and have this output
pub record Makes (is_output : Output) (before after : SourceEnd) (failed : Bool) (text : List ℕ) : Type 0 where
  pub bytes : List ℕ
  pub script : Scripted
  pub stream : List ℕ
  pub taken : Consumes before.left after.left bytes
  pub reads : ReadsTo failed before after
  pub session : IsSession bytes script stream
  pub output : is_output script stream failed text

-- The run of a script without a fault was given up: so many reads were made, each of which took a byte, or its commands,
-- the bytes of the stream and those of all writes allow a client so many calls.
pub record GivesUp (before after : SourceEnd) (turns : ℕ) : Type 0 where
  pub bytes : List ℕ
  pub script : Scripted
  pub stream : List ℕ
  pub taken : Consumes before.left after.left bytes
  pub session : IsSession bytes script stream
  pub known : IsScript script
  pub cause : ((turns ≡ 4294967296) × (turns ≤ length bytes))
      ⊎ ((turns ≡ 2 ^ 39) × (turns ≤ most_calls (all_commands script.lines) (length stream + bytes_written script)))

-- the script of the input has this fault
abbrev pub HasFault : ScriptFault → (before after : SourceEnd) → Type 0
HasFault fault before after =
    (after.faults ≡ before.faults) × IfSome before.left (λ input. grammar (split input).script ≡ Err fault)

-- a read failed before the line `stream` was whole
pub record FailsEarly (before after : SourceEnd) : Type 0 where
  pub bytes : List ℕ
  pub taken : Consumes before.left after.left bytes
  pub missing : (split bytes).stream ≡ None
  pub rose : before.faults < after.faults

-- why there is no output
abbrev pub Refuses : (before after : SourceEnd) → Status → Type 0
Refuses before after (Script fault) = HasFault fault before after
Refuses before after (TooLong turns) = GivesUp before after turns
Refuses before after ReadFault = FailsEarly before after
Refuses before after NoMemory = ⊤
Refuses before after _ = ⊥

-- ------ the parts

abbrev pub status_of_error : ScriptError → Status
status_of_error (Fault fault) = Script fault
status_of_error NoMemoryToRead = NoMemory

abbrev pub status_of_stop : Stop → Status
status_of_stop NoMemoryToRun = NoMemory
status_of_stop (RunTooLong turns) = TooLong turns

-- These first bytes of an input hold a script without a fault, and the puller begins with those behind its part. A packet of
-- its stream takes up so many.
pub record Holds (first : List ℕ) (size : PacketSize) (script : Scripted) (puller : Pulling) : Type 0 where
  pub part : List ℕ
  pub ahead : List ℕ
  pub splits : (more : List ℕ) → split (first ++ more) ≡ record { script = part; stream = Some (ahead ++ more) }
  pub says : grammar part ≡ Ok script
  pub known : IsScript script
  pub pulls : Pulls ahead [] [] puller
  pub reads : puller.start ≤ length first
  pub takes_up : puller.cutting.size ≡ size

-- these first bytes of an input have no script without a fault, or memory was refused
abbrev pub IsFaultIn : (first : List ℕ) → Status → Type 0
IsFaultIn first (Script fault) = grammar first ≡ Err fault
IsFaultIn first NoMemory = ⊤
IsFaultIn first _ = ⊥
