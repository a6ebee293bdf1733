-- The code's calls, replies and filters, as invocations, responses and what was set.
use Rattle.std.specs.Prelude.{ℕ, List, [], ◌∷◌}
use Rattle.std.specs.declared.alloc.Global.{Global}
use Rattle.std.specs.declared.sync.Arc.{Arc}
use Rattle.ts_batch.specs.Batch.{Packets}
use Rattle.dmx_calls.specs.Buffer.{Buffer}
use Rattle.dmx_calls.specs.declared.call.Call.{Call as CallOf}
use Rattle.dmx_calls.specs.declared.log.Entry.{Entry as ToldEntry}
use Rattle.dmx_calls.specs.declared.params.Params.{Params as SetParams}
use Rattle.dmx_calls.specs.declared.params.SectionParams.{SectionParams}
use Rattle.dmx_calls.specs.declared.params.Params.TheVariants.{Empty as EmptySet, Section as SectionSet, Pes as PesSet}
use Rattle.dmx_calls.specs.declared.reply.Reply.{Reply}
use Rattle.dmx_calls.specs.declared.reply.Reply.TheVariants.{Done as DoneReply, Busy as BusyReply, Refused as RefusedReply, NoMemory as NoMemoryReply, Data as DataReply, Again as AgainReply, Overflow as OverflowReply, TimedOut as TimedOutReply, Ready as ReadyReply, Passed as PassedReply}
use Rattle.dmx_calls.specs.Invocation.{Invocation}
use Rattle.dmx_calls.specs.Tenure.{Params, Empty, Section, Pes}
use Rattle.dmx_calls.specs.Log.{LogEntry, invocation_by}
use Rattle.dmx_calls.specs.Response.{Response, Done, Busy, Refused, NoMemory, Data, Again, Overflow, TimedOut, Ready, Passed}

-- a call of the code
abbrev pub Call : Type 0
Call = CallOf Buffer (Arc Packets Global) SectionParams (List ℕ)

abbrev pub invocation_of : Call → Invocation
invocation_of = invocation_by (λ room. room.count) (λ input batch. batch.value)

-- what was set, without the PIDs
abbrev pub params_of : SetParams → Params
params_of EmptySet = Empty
params_of (SectionSet params) = Section params
params_of (PesSet params pids) = Pes params

-- the PIDs of what was set
abbrev pub pids_of : SetParams → List ℕ
pids_of EmptySet = []
pids_of (SectionSet params) = params.pid ∷ []
pids_of (PesSet params pids) = pids

-- a Data reply is seen by its bytes alone
abbrev pub response_of : Reply (List ℕ) → Response
response_of (DoneReply dropped tap) = Done dropped.from dropped.to tap
response_of (BusyReply owner) = Busy owner
response_of (RefusedReply errno) = Refused errno
response_of NoMemoryReply = NoMemory
response_of (DataReply buf) = Data buf.bytes
response_of (AgainReply ended) = Again ended
response_of (OverflowReply from to item need room) = Overflow from to item need room
response_of (TimedOutReply started now timeout) = TimedOut started now timeout
response_of (ReadyReply readable error at ended) = Ready readable error at ended
response_of PassedReply = Passed

-- an entry of the code, as one of a log
abbrev pub told_entry : ToldEntry → LogEntry
told_entry e = record {
  node = e.node;
  place = e.place;
  step = e.step;
  who = e.who;
  act = e.act;
  response = response_of e.reply;
}
