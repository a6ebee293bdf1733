-- The words of others that the definitions and clauses of this crate use.
pub use Rattle.adapter.specs.Callers.{AreFreshCallers, Caller, IsSameCaller}
pub use Rattle.adapter.specs.Nodes.{MakesEntry}
pub use Rattle.adapter.specs.Rows.{Fits}
pub use Rattle.atomic_table.specs.Seated.{TableId}
pub use Rattle.byteorder.specs.Endian.{little_bytes}
pub use Rattle.client_core.specs.Commands.{Slots, call_of, commands_of, own_call}
pub use Rattle.client_core.specs.Plays.{Batches}
pub use Rattle.client_core.specs.Events.{next_event, waits_on}
pub use Rattle.client_core.specs.Outcomes.{Counters, kind_by, outcomes}
pub use Rattle.client_core.specs.Steps.{after, event_of, first}
pub use Rattle.client_core.specs.declared.command.ClientCommand.{ClientCommand}
pub use Rattle.client_core.specs.declared.task.Ending.{Ending}
pub use Rattle.client_core.specs.declared.task.Next.{Next}
pub use Rattle.client_core.specs.declared.task.Next.TheVariants.{Still, Through}
pub use Rattle.client_core.specs.declared.task.Task.{Task}
pub use Rattle.client_script.specs.Requests.{want_of}
pub use Rattle.client_script.specs.Script.{Scripted}
pub use Rattle.client_script.specs.declared.line.Target.{Target}
pub use Rattle.client_script.specs.declared.line.Target.TheVariants.{Dvr, Node, Slot}
pub use Rattle.client_script.specs.declared.line.Verb.TheVariants.{Once}
pub use Rattle.client_script.specs.declared.line.Want.{Want}
pub use Rattle.client_script.specs.declared.line.Want.TheVariants.{Close, Open}
pub use Rattle.dmx_abi.specs.Decoded.{decoded}
pub use Rattle.dmx_abi.specs.Layout.{field}
pub use Rattle.dmx_abi.specs.declared.request.AbiFault.{AbiFault}
pub use Rattle.dmx_abi.specs.declared.request.AbiFault.TheVariants.{Length, Unknown}
pub use Rattle.dmx_abi.specs.declared.request.Request.{Request}
pub use Rattle.dmx_calls.specs.Calls.{invocation_of, response_of, told_entry}
pub use Rattle.dmx_calls.specs.Entries.{caller_of}
pub use Rattle.dmx_calls.specs.History.{Entry}
pub use Rattle.dmx_calls.specs.Log.{Act, LogEntry, act_of}
pub use Rattle.dmx_calls.specs.Response.{Again, Busy, Data, Done, NoMemory, Overflow, Passed, Ready, Refused, Response, TapChange, TimedOut, is_accepted}
pub use Rattle.dmx_calls.specs.Tenure.{owner}
pub use Rattle.dmx_calls.specs.declared.limits.TheConstants.{DEMUX_NODES, LARGEST_READ}
pub use Rattle.dmx_calls.specs.declared.call.Call.TheVariants.{Attach, Detach, Pass}
pub use Rattle.dmx_calls.specs.declared.outcome.Outcome.{Outcome}
pub use Rattle.dmx_calls.specs.declared.outcome.OutcomeKind.{OutcomeKind}
pub use Rattle.dmx_calls.specs.declared.reply.Errno.{Errno}
pub use Rattle.dmx_calls.specs.declared.reply.Errno.TheVariants.{Ebadf, Ebusy, Einval, Enospc}
pub use Rattle.dmx_calls.specs.declared.reply.PollError.{PollError}
pub use Rattle.emu_io.specs.Ends.{SinkEnd, SourceEnd}
pub use Rattle.node_lock.specs.Passes.{KnowsItsCalls}
pub use Rattle.node_lock.specs.declared.view.View.{View}
pub use Rattle.script_run.specs.IsRun.{AreAsked, replies}
pub use Rattle.script_run.specs.WholeRun.{IsGiven}
pub use Rattle.std.proofs.lemmas.List.{append-nil, append_assoc}
pub use Rattle.std.specs.Io.KnownBytes.{Appends, Consumes, IsAtEnd}
pub use Rattle.std.specs.List.{flat_map}
