-- The words of others that the definitions and clauses of this crate use.
pub use Rattle.client_core.specs.Commands.{IsRequestInRange, IsRequestOf, call_of, commands_of, plays_of}
pub use Rattle.client_core.specs.Plays.{Batches}
pub use Rattle.client_core.specs.Events.{next_of_line, waits_on}
pub use Rattle.client_core.specs.Inside.Core.{Core, IsAfter}
pub use Rattle.client_core.specs.Outcomes.{outcomes}
pub use Rattle.client_core.specs.declared.event.Event.{Event}
pub use Rattle.client_script.specs.Grammar.{IsInRange}
pub use Rattle.client_script.specs.Script.{AreNumbered, Scripted, clients_in, clients_of, most_bytes}
pub use Rattle.client_script.specs.declared.line.Line.{Line}
pub use Rattle.client_script.specs.declared.line.Line.TheVariants.{Command, Feed, Tick}
pub use Rattle.client_script.specs.declared.line.Want.TheVariants.{Open}
pub use Rattle.dmx_calls.specs.Accounted.{IsAccounted}
pub use Rattle.dmx_calls.specs.Answer.{answer}
pub use Rattle.dmx_calls.specs.Back.{GivesBack}
pub use Rattle.dmx_calls.specs.Calls.{invocation_of, response_of, told_entry}
pub use Rattle.dmx_calls.specs.Histories.{histories_of, pass_act, woven}
pub use Rattle.dmx_calls.specs.History.{Entry, History, entry_of}
pub use Rattle.dmx_calls.specs.Invocation.{Invocation}
pub use Rattle.dmx_calls.specs.Legal.{IsLegalFor, May}
pub use Rattle.dmx_calls.specs.Log.{Act, LogEntry, act_of, filled, passing}
pub use Rattle.dmx_calls.specs.Response.{Again, Passed, Response}
pub use Rattle.dmx_calls.specs.Rules.{rules_at}
pub use Rattle.dmx_calls.specs.declared.histories.Fed.{Fed}
pub use Rattle.dmx_calls.specs.declared.limits.TheConstants.{DEMUX_NODES}
pub use Rattle.dmx_calls.specs.declared.call.Call.TheVariants.{End}
pub use Rattle.dmx_calls.specs.declared.outcome.Outcome.{Outcome}
pub use Rattle.dmx_calls.specs.declared.params.Input.TheVariants.{Frontend}
pub use Rattle.dvr_core.specs.Stands.{StandsFor}
pub use Rattle.emu_io.specs.Ends.{SourceEnd}
pub use Rattle.feed_pull.specs.Pulling.{IsDone, Pulling, Pulls, has_failed}
pub use Rattle.feed_pull.specs.Streams.{Draws, OfStream}
pub use Rattle.feed_pull.specs.declared.fault.Reading.TheVariants.{Going, TooMany}
pub use Rattle.script_run.specs.Budget.{IsTooLong, bytes_written, most_calls}
pub use Rattle.script_run.specs.IsRun.{IsRun, replies, sources}
pub use Rattle.std.specs.Io.KnownBytes.{IsAtEnd}
pub use Rattle.std.specs.List.{range_with_len}
pub use Rattle.ts_packet.specs.Cut.{cut}
pub use Rattle.ts_packet.specs.Fields.{IsPacket}
pub use Rattle.ts_packet.specs.declared.size.PacketSize.{PacketSize}
pub use Rattle.ts_watch.specs.Head.{head_of, told_head}
