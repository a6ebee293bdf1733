-- The words of others that the definitions and clauses of this crate use.
pub use Rattle.client_core.specs.Commands.{plays_of}
pub use Rattle.client_core.specs.Plays.{batch_at}
pub use Rattle.client_core.specs.Passes.{played_writes}
pub use Rattle.client_core.specs.declared.stop.Stop.{Stop}
pub use Rattle.client_core.specs.declared.stop.Stop.TheVariants.{NoMemory, TooLong}
pub use Rattle.client_script.specs.Script.{IsScript, Parsed, Scripted, clients_in, grammar, most_bytes, script_len, split, whole_lines}
pub use Rattle.client_script.specs.declared.fault.FaultKind.{FaultKind}
pub use Rattle.client_script.specs.declared.fault.FaultKind.TheVariants.{NoStream, Number}
pub use Rattle.client_script.specs.declared.fault.ScriptError.{ScriptError}
pub use Rattle.client_script.specs.declared.fault.ScriptFault.{ScriptFault}
pub use Rattle.command_words.specs.Meant.{IsInRange, meant}
pub use Rattle.command_words.specs.declared.Command.{Command}
pub use Rattle.command_words.specs.declared.Command.TheVariants.{Check, Make, Run, SelfTest, Steps}
pub use Rattle.dmx_calls.specs.Calls.{response_of, told_entry}
pub use Rattle.dmx_calls.specs.Histories.{pass_act}
pub use Rattle.dmx_calls.specs.Log.{LogEntry}
pub use Rattle.dmx_calls.specs.declared.limits.TheConstants.{DEMUX_NODES}
pub use Rattle.dmx_calls.specs.declared.call.Call.TheVariants.{SetFilter, SetPes}
pub use Rattle.dmx_calls.specs.declared.outcome.Outcome.{Outcome}
pub use Rattle.emu_io.specs.Causes.{HasCause}
pub use Rattle.emu_io.specs.Ends.{SinkEnd, SourceEnd}
pub use Rattle.feed_pull.specs.Pulling.{HasGivenAll, IsDone, Pulling, Pulls}
pub use Rattle.feed_pull.specs.Streams.{Draws, OfStream}
pub use Rattle.feed_pull.specs.declared.fault.Reading.TheVariants.{Going}
pub use Rattle.report_check.specs.Completed.{told_by}
pub use Rattle.report_check.specs.Right.{IsReportOfRun}
pub use Rattle.report_read.specs.Ranges.{IsActInRange, IsEntryInRange, IsOutcomeInRange, IsResponseInRange, IsRowInRange, IsTallyInRange, IsTapInRange}
pub use Rattle.report_text.specs.Report.{report_of}
pub use Rattle.report_text.specs.Summary.{summary_of}
pub use Rattle.script_run.specs.Budget.{all_commands, bytes_written, most_calls}
pub use Rattle.script_run.specs.IsRun.{IsRun, replies, sources}
pub use Rattle.script_run.specs.Passing.{batches_by}
pub use Rattle.script_run.specs.WholeRun.{IsWholeRun}
pub use Rattle.serial_core.specs.Left.{histories_in, outcomes_in}
pub use Rattle.serial_core.specs.Runs.{IsAccountedRun}
pub use Rattle.serial_core.specs.declared.run.Left.{Left}
pub use Rattle.std.specs.Io.{ReadsAtMost}
pub use Rattle.std.specs.Io.KnownBytes.{Appends, Consumes, IsAtEnd, Keeps, ReadConsumes}
pub use Rattle.std.specs.List.{All}
pub use Rattle.std.specs.declared.option.Option.{Option}
pub use Rattle.text_forms.specs.Numbers.{number_between}
pub use Rattle.text_forms.specs.Places.{IsFilter, IsSixteenBytes}
pub use Rattle.text_forms.specs.Words.{is_word}
pub use Rattle.ts_make.specs.Made.{made}
pub use Rattle.ts_packet.specs.Cut.{cut}
pub use Rattle.ts_packet.specs.declared.size.PacketSize.{PacketSize}
pub use Rattle.ts_packet.specs.declared.size.PacketSize.TheVariants.{Of188}
pub use Rattle.ts_watch.specs.Head.{StreamHead, head_of, told_head}
