-- The words of others that the definitions and clauses of this crate use.
pub use Rattle.client_core.specs.Commands.{IsRequestOf, call_of, own_call, pass_of, played, plays_of}
pub use Rattle.client_core.specs.Plays.{Batches}
pub use Rattle.client_core.specs.Events.{next_event}
pub use Rattle.client_core.specs.Inside.Core.{Core, IsAfter}
pub use Rattle.client_core.specs.Outcomes.{outcomes}
pub use Rattle.client_core.specs.PlayLaws.{packets_in}
pub use Rattle.client_core.specs.declared.event.ClientRequest.{ClientRequest}
pub use Rattle.client_script.specs.Script.{Scripted, clients_in}
pub use Rattle.dmx_calls.specs.Calls.{Call, invocation_of, response_of, told_entry}
pub use Rattle.dmx_calls.specs.Entries.{told}
pub use Rattle.dmx_calls.specs.Histories.{feeder_entry}
pub use Rattle.dmx_calls.specs.History.{Entry, entry_of}
pub use Rattle.dmx_calls.specs.Legal.{IsLegalFor, May}
pub use Rattle.dmx_calls.specs.Log.{Act, LogEntry, Sources, act_of, filled, filled_act, filled_entry, passing}
pub use Rattle.dmx_calls.specs.Response.{NoMemory, Response}
pub use Rattle.dmx_calls.specs.Rules.{Rules, rules_at}
pub use Rattle.dmx_calls.specs.declared.limits.TheConstants.{DEMUX_NODES, LARGEST_READ}
pub use Rattle.dmx_calls.specs.declared.call.Call.TheVariants.{End, Pass, Poll, Read, SetFilter, SetPes, Start}
pub use Rattle.dmx_calls.specs.declared.outcome.Outcome.{Outcome}
pub use Rattle.dmx_calls.specs.declared.params.Input.{Input}
pub use Rattle.dmx_calls.specs.declared.params.Input.TheVariants.{Dvr, Frontend}
pub use Rattle.dmx_calls.specs.declared.reply.Answer.{Answer}
pub use Rattle.report_read.specs.Ranges.{IsInRange}
pub use Rattle.report_read.specs.Report.{IsInOrder, IsReport, are_rows, told_of}
pub use Rattle.report_text.specs.Entries.{is_of_client}
pub use Rattle.report_text.specs.Report.{report_of}
pub use Rattle.report_text.specs.Told.{Told, ToldNode, text_of}
pub use Rattle.script_run.specs.IsRun.{HasDone, IsEvent, IsRun, Step, replies, steps_of}
pub use Rattle.std.specs.List.{All, list_any, range_with_len}
pub use Rattle.std.specs.Option.{option_map}
pub use Rattle.std.specs.declared.alloc.Global.{Global}
pub use Rattle.ts_packet.specs.Fields.{IsPacket}
pub use Rattle.ts_watch.specs.Head.{StreamHead, told_head}
