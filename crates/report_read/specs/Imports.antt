-- The words of others that the definitions and clauses of this crate use.
pub use Rattle.dmx_calls.specs.Calls.{response_of, told_entry}
pub use Rattle.dmx_calls.specs.Log.{Act, LogEntry, passing}
pub use Rattle.dmx_calls.specs.Response.{Again, Busy, Data, Done, NoMemory, Overflow, Passed, Ready, Refused, Response, TapChange, TimedOut}
pub use Rattle.dmx_calls.specs.declared.limits.TheConstants.{DEMUX_NODES, LARGEST_PID, LARGEST_READ}
pub use Rattle.dmx_calls.specs.declared.call.Call.TheVariants.{AddPid, Attach, Close, Detach, End, Open, Pass, Poll, Read, RemovePid, SetFilter, SetPes, SetSize, Start, Stop}
pub use Rattle.dmx_calls.specs.declared.outcome.Outcome.{Outcome}
pub use Rattle.dmx_calls.specs.declared.outcome.OutcomeKind.{OutcomeKind}
pub use Rattle.dmx_calls.specs.declared.outcome.OutcomeKind.TheVariants.{Stc}
pub use Rattle.dmx_calls.specs.declared.params.Input.{Input}
pub use Rattle.dmx_calls.specs.declared.params.Output.{Output}
pub use Rattle.dmx_calls.specs.declared.reply.PollError.{PollError}
pub use Rattle.filter_match.specs.Places.{with_place}
pub use Rattle.filter_match.specs.declared.filter.Place.{Place}
pub use Rattle.filter_match.specs.declared.filter.SectionFilter.{SectionFilter}
pub use Rattle.pid_set.specs.Pids.{ArePids, has_pid, with_pid}
pub use Rattle.report_text.specs.Entries.{entry_text, is_of_client}
pub use Rattle.report_text.specs.Told.{Told, ToldNode, text_of, told_node_text}
pub use Rattle.std.specs.Char.{is_ascii_digit}
pub use Rattle.std.specs.Cmp.Lexicographic.{pointwise}
pub use Rattle.std.specs.List.{All, flat_map, list_any, prefix_len}
pub use Rattle.std.specs.Option.{option_map}
pub use Rattle.text_forms.specs.Hex.{hex_byte}
pub use Rattle.text_forms.specs.Numbers.{number_between}
pub use Rattle.text_forms.specs.Places.{HasBytes, IsFilter}
pub use Rattle.ts_packet.specs.declared.cutter.Tally.{Tally}
pub use Rattle.ts_watch.specs.Head.{told_head}
pub use Rattle.ts_watch.specs.declared.seen.PidRow.{PidRow}
