-- What a server has done where it has written its report.
use Rattle.std.specs.Prelude.{◌≡◌, ◌≢◌, ◌≤◌, ◌++◌, ℕ, Bool, true, List, [], length, replicate, reverse, slice_get, Some, Option, All}
use Rattle.serve_top.specs.Imports.{Appends, Caller, Consumes, DEMUX_NODES, Dvr, Fed, Frontend, HasAnsweredAll, HasFedAll, HasLeft, HaveCalled, IsLoggedIn, IsWholeRun, LogEntry, NoMemory, Of188, Outcome, Scripted, SinkEnd, SourceEnd, Sources, TellWhatWasCalled, commands_by, commands_of, cut, head_of, no_writes, report_of, spelled}
use Rattle.serve_top.specs.Read.{HasReadTo, IsTimed}

-- all nodes
abbrev pub every : (node : ℕ) → Bool
every node = true

-- the packets of the stream, which the feeder brings; a program brings none
abbrev pub fed_by : (stream : List (List ℕ)) → Sources
fed_by stream who Frontend = stream
fed_by stream who Dvr = []

-- A seat has served its line: it has made just these calls, by which its client came to what it is now, and told these of its
-- commands; and the commands of the script's client of this number are those that the requests of the line spell, in their order.
pub record IsServed {T : Type 0} (source : T → SourceEnd) (sink : T → SinkEnd) (may : ℕ → Bool) (behind : SourceEnd → ℕ → Bool)
    (script : Scripted)
    (number : ℕ) (client : Caller) (line : T) (book : List LogEntry) (told : List Outcome) : Type 0 where
  pub end : T
  pub first : Caller
  pub answers : HasAnsweredAll source sink may behind line end first client [] book [] told
  pub spells : commands_of number script ≡ commands_by 0 (spelled (answers.turns ++ answers.last) answers.leaving)

-- no call has found memory wanting
abbrev pub FindMemory : List (List LogEntry) → Type 0
FindMemory books = (e : LogEntry) → IsLoggedIn books e → e.response ≢ NoMemory

-- These histories and outcomes are those of a run of the script over these packets; clients behind those that the script has did
-- nothing, and nothing is told of them.
pub record IsRunOf (script : Scripted) (may : ℕ → Bool) (stream : List (List ℕ)) (told : List (List Outcome))
    (histories : List (List LogEntry)) : Type 0 where
  pub ran : List (List Outcome)
  pub idle : ℕ
  pub all : told ≡ ran ++ replicate idle []
  pub run : IsWholeRun script 64 may stream ran histories

-- What was read of the stream, what was called by whom and why, and the report that tells just this.
pub record HasReported {T : Type 0} (source : T → SourceEnd) (sink : T → SinkEnd) (lines : List T) (may : ℕ → Bool)
    (behind : SourceEnd → ℕ → Bool) (before after : SourceEnd) (was now : Option (List ℕ)) : Type 0 where
  -- the bytes that were read, up to the end of the stream or the read that failed
  pub taken : List ℕ
  pub consumes : Consumes before.left after.left taken
  pub failed : Bool
  pub reads : HasReadTo failed before after
  -- the stream has passed all nodes, in batches of 64 packets
  pub feeder : Caller
  pub feeding : List Fed
  pub fed : HasFedAll every 64 may (cut Of188 taken).packets feeder feeding
  -- the clock was read for each batch behind the bytes of its packets, and for each call (`asked`) behind its request
  pub clock : All (IsTimed behind before) feeding
  -- there is a client for each line, and it has made just the calls of its log
  pub clients : List Caller
  pub each : length clients ≡ length lines
  pub books : List (List LogEntry)
  pub called : HaveCalled every (fed_by (cut Of188 taken).packets) feeder feeding clients books
  -- these are the calls that the requests of its line ask for, one after another, each told in its reply, and then those by which
  -- all nodes were closed, as by each request to leave; and the script has the commands that these spell, and no client of it
  -- writes. What became of commands is told of the clients of the lines, and of no other
  pub script : Scripted
  pub writes : script.writes ≡ no_writes
  pub told : List (List Outcome)
  pub as_many : length told ≡ length lines
  pub asked : (c : ℕ) (book : List LogEntry) → slice_get books c ≡ Some book
      → (line : T) × (slice_get (reverse lines) c ≡ Some line) × (client : Caller) × (slice_get clients c ≡ Some client)
      × (became : List Outcome) × (slice_get told c ≡ Some became)
      × IsServed source sink may behind script c client line book became
  -- and behind them it owns no node
  pub left : (c : ℕ) (client : Caller) → slice_get clients c ≡ Some client → (node : ℕ) → node ≤ DEMUX_NODES
      → HasLeft node client
  -- the report tells these calls and no others, as the locks of the nodes have them
  pub histories : List (List LogEntry)
  pub tells : TellWhatWasCalled every (fed_by (cut Of188 taken).packets) feeder feeding clients books histories
  -- it is a run of the script, where no call has found memory wanting
  pub run : FindMemory books → IsRunOf script may (cut Of188 taken).packets told histories
  pub written : Appends was now (report_of (head_of Of188 taken failed) told histories)
