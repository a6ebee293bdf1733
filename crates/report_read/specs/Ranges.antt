-- What a report can tell: the numbers fit the types of the code, and no more bytes or PIDs stand in one place than a Read
-- and a filter can have (this project's own).
use Rattle.std.specs.Prelude.{◌≡◌, ℕ, ◌<◌, ◌≤◌, ◌^◌, List, length}
use Rattle.report_read.specs.Imports.{Act, AddPid as AddPidAct, Again, All, ArePids, Attach as AttachAct, Busy, Close as CloseAct, DEMUX_NODES, Data, Detach as DetachAct, Done, End as EndAct, IsFilter, LARGEST_READ, LogEntry, NoMemory, Open as OpenAct, Outcome, OutcomeKind, Overflow, Pass as PassAct, Passed, PidRow, Poll as PollAct, Read as ReadAct, Ready, Refused, RemovePid as RemovePidAct, Response, SetFilter as SetFilterAct, SetPes as SetPesAct, SetSize as SetSizeAct, Start as StartAct, Stc, Stop as StopAct, Tally, TapChange, TimedOut, Told, ToldNode}
use Rattle.dmx_calls.specs.declared.reply.Tap.TheVariants.{Keep as KeepTap, Attach as AttachTap, Detach as DetachTap}

-- ------ calls
-- the PIDs of a filter or a tap: an ascending set of at most 128
abbrev pub IsPidSet : List ℕ → Type 0
IsPidSet pids = ArePids pids × (length pids ≤ 128)

-- a call
abbrev pub IsActInRange : Act → Type 0
IsActInRange OpenAct = Unit {0}
IsActInRange CloseAct = Unit {0}
IsActInRange (SetFilterAct p now) =
    (p.pid < 65536) × (p.timeout < 2 ^ 32) × (p.flags < 2 ^ 32) × IsFilter p.filter × (now < 2 ^ 64)
IsActInRange (SetPesAct p now) = (p.pid < 65536) × (p.pes_type < 2 ^ 32) × (p.flags < 2 ^ 32) × (now < 2 ^ 64)
IsActInRange (AddPidAct pid) = pid < 65536
IsActInRange (RemovePidAct pid) = pid < 65536
IsActInRange (StartAct now) = now < 2 ^ 64
IsActInRange StopAct = Unit {0}
IsActInRange (SetSizeAct size) = size < 2 ^ 32
IsActInRange (ReadAct now count) = (count < 2 ^ 32) × (now < 2 ^ 64)
IsActInRange (PollAct now) = now < 2 ^ 64
IsActInRange (PassAct input batch now) = (batch.first < 2 ^ 64) × (batch.count < 2 ^ 32) × (now < 2 ^ 64)
IsActInRange EndAct = Unit {0}
IsActInRange (AttachAct node pids) = (node < 2 ^ 32) × IsPidSet pids
IsActInRange (DetachAct node) = node < 2 ^ 32

-- ------ replies

-- what the dvr node is to be told
abbrev pub IsTapInRange : TapChange → Type 0
IsTapInRange KeepTap = Unit {0}
IsTapInRange (AttachTap pids) = IsPidSet pids
IsTapInRange DetachTap = Unit {0}

-- a reply
abbrev pub IsResponseInRange : Response → Type 0
IsResponseInRange (Done from to tap) = (from < 2 ^ 64) × (to < 2 ^ 64) × IsTapInRange tap
IsResponseInRange (Busy owner) = owner < 2 ^ 32
IsResponseInRange (Refused errno) = Unit {0}
IsResponseInRange NoMemory = Unit {0}
IsResponseInRange (Data bytes) = All (λ byte. byte < 256) bytes × (length bytes ≤ LARGEST_READ)
IsResponseInRange (Again ended) = Unit {0}
IsResponseInRange (Overflow from to item need room) =
    (from < 2 ^ 64) × (to < 2 ^ 64) × (item < 2 ^ 64) × (need < 2 ^ 64) × (room < 2 ^ 64)
IsResponseInRange (TimedOut started now timeout) = (started < 2 ^ 64) × (now < 2 ^ 64) × (timeout < 2 ^ 32)
IsResponseInRange (Ready readable error at ended) = at < 2 ^ 64
IsResponseInRange Passed = Unit {0}

-- ------ the whole

-- an entry
pub record IsEntryInRange (e : LogEntry) : Type 0 where
  pub place : e.place < 2 ^ 64
  pub step : e.step < 2 ^ 64
  pub who : e.who < 2 ^ 32
  pub act : IsActInRange e.act
  pub response : IsResponseInRange e.response

-- an entry of this node
abbrev pub IsEntryOf : (node : ℕ) → LogEntry → Type 0
IsEntryOf node e = IsEntryInRange e × (e.node ≡ node)

-- a node of a report, and the entries on it
pub record IsNodeInRange (n : ToldNode) : Type 0 where
  pub node : n.node ≤ DEMUX_NODES
  pub entries : All (IsEntryOf n.node) n.entries

-- the numbers of a PID
pub record AreCountsInRange (counts : PidRow) : Type 0 where
  pub packets : counts.packets < 2 ^ 64
  pub breaks : counts.breaks < 2 ^ 64
  pub duplicates : counts.duplicates < 2 ^ 64
  pub errors : counts.errors < 2 ^ 64

-- a PID and its numbers
abbrev pub IsRowInRange : ℕ × PidRow → Type 0
IsRowInRange row = (row.0 < 65536) × AreCountsInRange row.1

-- what was counted of the stream
pub record IsTallyInRange (tally : Tally) : Type 0 where
  pub packets : tally.packets < 2 ^ 64
  pub skipped : tally.skipped < 2 ^ 64
  pub rest : tally.rest < 2 ^ 32

-- how a command ended
abbrev pub IsKindInRange : OutcomeKind → Type 0
IsKindInRange (Stc base value) = (base < 2 ^ 32) × (value < 2 ^ 64)
IsKindInRange _ = Unit {0}

-- a command of a client
pub record IsOutcomeInRange (o : Outcome) : Type 0 where
  pub line : o.line < 2 ^ 32
  pub from : o.from < 2 ^ 64
  pub to : o.to < 2 ^ 64
  pub kind : IsKindInRange o.kind

-- the parts of a report
pub record ArePartsInRange (t : Told) : Type 0 where
  pub tally : IsTallyInRange t.head.tally
  pub rows : All IsRowInRange t.head.rows
  pub outcomes : All (All IsOutcomeInRange) t.outcomes
  pub nodes : All IsNodeInRange t.nodes

-- all that a report tells; a client's number is one of 32 bits, and so is its number as a caller, which is greater by one
pub record IsInRange (t : Told) : Type 0 where
  pub parts : ArePartsInRange t
  pub clients : length t.outcomes ≤ 4294967295
