-- The words of others that the definitions and clauses of this crate use.
pub use Rattle.dmx_calls.specs.Calls.{response_of, told_entry}
pub use Rattle.dmx_calls.specs.Histories.{before_entry, feeder_acts, feeder_entries, feeder_entry, pass_act, woven}
pub use Rattle.dmx_calls.specs.Log.{Act, LogEntry}
pub use Rattle.dmx_calls.specs.Names.{errno_text, input_text, output_text, pending_text}
pub use Rattle.dmx_calls.specs.Response.{Again, Busy, Data, Done, NoMemory, Overflow, Passed, Ready, Refused, Response, TapChange, TimedOut}
pub use Rattle.dmx_calls.specs.declared.histories.Fed.{Fed}
pub use Rattle.dmx_calls.specs.declared.limits.TheConstants.{DEMUX_NODES}
pub use Rattle.dmx_calls.specs.declared.call.Call.TheVariants.{AddPid, Attach, Close, Detach, End, Open, Pass, Poll, Read, RemovePid, SetFilter, SetPes, SetSize, Start, Stop}
pub use Rattle.dmx_calls.specs.declared.outcome.Outcome.{Outcome}
pub use Rattle.dmx_calls.specs.declared.outcome.OutcomeKind.{OutcomeKind}
pub use Rattle.dmx_calls.specs.declared.params.Input.{Input}
pub use Rattle.dmx_calls.specs.declared.params.PesParams.{PesParams}
pub use Rattle.dmx_calls.specs.declared.params.SectionParams.{SectionParams}
pub use Rattle.emu_io.specs.Causes.{HasCause}
pub use Rattle.std.specs.Fmt.{decimal}
pub use Rattle.std.specs.Io.KnownBytes.{Appends}
pub use Rattle.std.specs.List.{flat_map, list_any, slice_get}
pub use Rattle.text_forms.specs.Appended.{Appended}
pub use Rattle.text_forms.specs.Hex.{hex_text}
pub use Rattle.text_forms.specs.Names.{node_text, who_text}
pub use Rattle.text_forms.specs.Places.{filter_text}
pub use Rattle.ts_packet.specs.declared.cutter.Tally.{Tally}
pub use Rattle.ts_watch.specs.Head.{StreamHead, told_head}
pub use Rattle.ts_watch.specs.declared.seen.PidRow.{PidRow}
