-- The entries of a report, and the history that they tell.
use Rattle.std.specs.Prelude.{ℕ, ◌≡◌, List, length, map, reverse, take, drop}
use Rattle.ts_batch.specs.Batch.{Packets}
use Rattle.dmx_calls.specs.declared.params.Input.{Input}
use Rattle.dmx_calls.specs.declared.params.SectionParams.{SectionParams}
use Rattle.dmx_calls.specs.declared.log.BatchRange.{BatchRange}
use Rattle.dmx_calls.specs.declared.call.Call.{Call as CallOf}
use Rattle.dmx_calls.specs.declared.call.Call.TheVariants.{Open as OpenAct, Close as CloseAct, SetFilter as SetFilterAct, SetPes as SetPesAct, AddPid as AddPidAct, RemovePid as RemovePidAct, Start as StartAct, Stop as StopAct, SetSize as SetSizeAct, Read as ReadAct, Poll as PollAct, Pass as PassAct, End as EndAct, Attach as AttachAct, Detach as DetachAct}
use Rattle.dmx_calls.specs.Invocation.{Invocation, Open, Close, SetFilter, SetPes, AddPid, RemovePid, Start, Stop, SetSize, Read, Poll, Pass, End, Attach, Detach}
use Rattle.dmx_calls.specs.Response.{Response}
use Rattle.dmx_calls.specs.History.{Entry, History}

-- a call as a report tells it
abbrev pub Act : Type 0
Act = CallOf ℕ BatchRange SectionParams (List ℕ)

-- the call by which so many packets pass, from the one with this number on
abbrev pub passing : Input → (first count now : ℕ) → Act
passing input first count now = PassAct input (record { first = first; count = count }) now

-- the node, the place in its history, the caller's step, the caller, the call, the response
pub record LogEntry : Type 0 where
  pub node : ℕ
  pub place : ℕ
  pub step : ℕ
  pub who : ℕ
  pub act : Act
  pub response : Response

-- the packets of which a caller's passes bring some, by their input
abbrev pub Sources : Type 0
Sources = (who : ℕ) → Input → List (List ℕ)

-- the invocation of a call, by the count of its room and the packets of its batch
abbrev pub invocation_by : {Room Passed : Type 0} → (count : Room → ℕ) → (packets : Input → Passed → Packets)
    → CallOf Room Passed SectionParams (List ℕ) → Invocation
invocation_by count packets OpenAct = Open
invocation_by count packets CloseAct = Close
invocation_by count packets (SetFilterAct p now) = SetFilter p now
invocation_by count packets (SetPesAct p now) = SetPes p now
invocation_by count packets (AddPidAct pid) = AddPid pid
invocation_by count packets (RemovePidAct pid) = RemovePid pid
invocation_by count packets (StartAct now) = Start now
invocation_by count packets StopAct = Stop
invocation_by count packets (SetSizeAct size) = SetSize size
invocation_by count packets (ReadAct now room) = Read now (count room)
invocation_by count packets (PollAct now) = Poll now
invocation_by count packets (PassAct input batch now) = Pass input (packets input batch).first (packets input batch).packets now
invocation_by count packets EndAct = End
invocation_by count packets (AttachAct node pids) = Attach node pids
invocation_by count packets (DetachAct node) = Detach node

-- the packets of this range
abbrev pub in_range : List (List ℕ) → BatchRange → Packets
in_range packets range = record { first = range.first; packets = take range.count (drop range.first packets) }

-- the call, where its caller's passes bring of these packets
abbrev pub filled_act : (packets : Input → List (List ℕ)) → Act → Invocation
filled_act packets = invocation_by (λ count. count) (λ input range. in_range (packets input) range)

abbrev pub filled_entry : Sources → LogEntry → Entry
filled_entry packets e = record { who = e.who; invocation = filled_act (packets e.who) e.act; response = e.response }

-- the history of these entries, which a report has the oldest first
abbrev pub filled : Sources → List LogEntry → History
filled packets entries = reverse (map (filled_entry packets) entries)

-- the same of an invocation
abbrev pub act_of : Invocation → Act
act_of Open = OpenAct
act_of Close = CloseAct
act_of (SetFilter p now) = SetFilterAct p now
act_of (SetPes p now) = SetPesAct p now
act_of (AddPid pid) = AddPidAct pid
act_of (RemovePid pid) = RemovePidAct pid
act_of (Start now) = StartAct now
act_of Stop = StopAct
act_of (SetSize size) = SetSizeAct size
act_of (Read now count) = ReadAct now count
act_of (Poll now) = PollAct now
act_of (Pass input first packets now) = passing input first (length packets) now
act_of End = EndAct
act_of (Attach node pids) = AttachAct node pids
act_of (Detach node) = DetachAct node

-- the packets that the call brings are of these, from its first on
abbrev pub IsFrom : (packets : Input → List (List ℕ)) → Invocation → Type 0
IsFrom packets (Pass input first brought now) = brought ≡ take (length brought) (drop first (packets input))
IsFrom packets _ = Unit {0}

-- A call as a report tells it, filled with the packets that its caller's passes bring, is the call: nothing of it is lost.
abbrev pub FilledIsTheCall : Type 0
FilledIsTheCall =
    (packets : Input → List (List ℕ)) (call : Invocation) → IsFrom packets call
    → filled_act packets (act_of call) ≡ call
