-- The words of others that the definitions and clauses of this crate use.
pub use Rattle.adapter.specs.Callers.{AreAllCallers, AreFreshCallers, Caller, IsSameCaller}
pub use Rattle.adapter.specs.Ends.{HaveHistories, IsHistory, rows_of}
pub use Rattle.adapter.specs.Merging.{AreOnNodes}
pub use Rattle.adapter.specs.Nodes.{IsLegalAt, ended, is_in}
pub use Rattle.adapter.specs.Rows.{Fits, column}
pub use Rattle.atomic_table.specs.Seated.{TableId}
pub use Rattle.client_core.specs.Commands.{IsRequestInRange, IsRequestOf, call_of}
pub use Rattle.client_core.specs.Plays.{Batches}
pub use Rattle.client_core.specs.Events.{next_event, waits_on}
pub use Rattle.client_core.specs.Inside.Core.{Core, IsAfter, next_of}
pub use Rattle.client_core.specs.Outcomes.{outcomes}
pub use Rattle.client_core.specs.declared.event.Event.{Event}
pub use Rattle.client_core.specs.declared.stop.Stop.{Stop}
pub use Rattle.client_core.specs.declared.stop.Stop.TheVariants.{NoMemory, TooLong}
pub use Rattle.client_core.specs.declared.stop.TheConstants.{MOST_CALLS}
pub use Rattle.client_script.specs.Grammar.{IsTargetInRange}
pub use Rattle.client_script.specs.Script.{AreNumbered, Scripted, clients_in}
pub use Rattle.client_script.specs.declared.line.Line.{Line}
pub use Rattle.client_script.specs.declared.line.Line.TheVariants.{Command}
pub use Rattle.client_script.specs.declared.line.Target.{Target}
pub use Rattle.client_script.specs.declared.line.Target.TheVariants.{Dvr, Node, Slot}
pub use Rattle.client_script.specs.declared.line.Verb.{Verb}
pub use Rattle.client_script.specs.declared.line.Verb.TheVariants.{Write}
pub use Rattle.dmx_calls.specs.Calls.{response_of, told_entry}
pub use Rattle.dmx_calls.specs.Histories.{feeder_acts, feeder_entry}
pub use Rattle.dmx_calls.specs.History.{Entry, entry_of}
pub use Rattle.dmx_calls.specs.Invocation.{Pass}
pub use Rattle.dmx_calls.specs.Log.{Act, IsFrom, LogEntry, Sources, act_of, filled_entry}
pub use Rattle.dmx_calls.specs.Response.{Passed, Response}
pub use Rattle.dmx_calls.specs.declared.histories.Fed.{Fed}
pub use Rattle.dmx_calls.specs.declared.limits.TheConstants.{DEMUX_NODES}
pub use Rattle.dmx_calls.specs.declared.outcome.Outcome.{Outcome}
pub use Rattle.dmx_calls.specs.declared.params.Input.{Input}
pub use Rattle.dmx_calls.specs.declared.params.Input.TheVariants.{Frontend}
pub use Rattle.emu_io.specs.Ends.{SourceEnd}
pub use Rattle.feed_pull.specs.Pulling.{IsDone, Pulling, Pulls, has_failed}
pub use Rattle.feed_pull.specs.Streams.{Draws, OfStream}
pub use Rattle.feed_pull.specs.declared.fault.Reading.TheVariants.{Going, TooMany}
pub use Rattle.node_lock.specs.declared.view.View.{View}
pub use Rattle.script_run.specs.Budget.{IsTooLong, all_commands, bytes_written, most_calls}
pub use Rattle.script_run.specs.IsRun.{AreAsked, AreInOrder, Batch, InTurn, StandsIn, Step, replies, sources, steps_of}
pub use Rattle.script_run.specs.WholeRun.{AreFull, IsGiven, IsWholeRun}
pub use Rattle.std.proofs.lemmas.List.{append-nil, append_assoc}
pub use Rattle.std.specs.Io.KnownBytes.{IsAtEnd}
pub use Rattle.std.specs.List.{list_any}
pub use Rattle.ts_packet.specs.Cut.{cut}
pub use Rattle.ts_packet.specs.Fields.{IsPacket}
pub use Rattle.ts_packet.specs.declared.size.PacketSize.{PacketSize}
pub use Rattle.ts_watch.specs.Head.{head_of, told_head}
pub use denote.Param.Send.{IsSend, IsSync}
pub use lib.ListN.{get_elem?}
pub use mathlib.Core.Option.{some}
