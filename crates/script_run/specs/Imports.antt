-- The words of others that the definitions and clauses of this crate use.
pub use Rattle.client_core.specs.Commands.{call_of, commands_of, played, plays_of}
pub use Rattle.client_core.specs.Plays.{Batches, batch_at}
pub use Rattle.client_core.specs.Events.{next_event, waits_on}
pub use Rattle.client_core.specs.Outcomes.{outcomes}
pub use Rattle.client_core.specs.Passes.{played_writes}
pub use Rattle.client_core.specs.declared.event.Event.{Event}
pub use Rattle.client_core.specs.declared.stop.TheConstants.{MOST_CALLS}
pub use Rattle.client_script.specs.Script.{AreNumbered, Scripted, clients_in}
pub use Rattle.client_script.specs.declared.line.Line.{Line}
pub use Rattle.client_script.specs.declared.line.Line.TheVariants.{Command}
pub use Rattle.dmx_calls.specs.Accounted.{IsAccounted}
pub use Rattle.dmx_calls.specs.Legal.{IsLegalFor}
pub use Rattle.dmx_calls.specs.Log.{Act, LogEntry, Sources, act_of, filled, filled_act, passing}
pub use Rattle.dmx_calls.specs.Response.{Data, NoMemory, Overflow, Response}
pub use Rattle.dmx_calls.specs.Rules.{rules_at}
pub use Rattle.dmx_calls.specs.declared.limits.TheConstants.{DEMUX_NODES}
pub use Rattle.dmx_calls.specs.declared.call.Call.TheVariants.{End, Pass, Poll, Read, SetFilter, SetPes, Start}
pub use Rattle.dmx_calls.specs.declared.outcome.Outcome.{Outcome}
pub use Rattle.dmx_calls.specs.declared.params.Input.TheVariants.{Dvr, Frontend}
pub use Rattle.std.specs.List.{flat_map}
pub use Rattle.ts_batch.specs.Batch.{Packets}
pub use Rattle.ts_packet.specs.Fields.{IsPacket}
