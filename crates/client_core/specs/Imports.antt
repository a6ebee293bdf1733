-- The words of others that the definitions and clauses of this crate use.
pub use Rattle.byteorder.specs.Endian.{big_number}
pub use Rattle.client_script.specs.Grammar.{IsInRange, IsTargetInRange, IsVerbInRange, IsWantInRange}
pub use Rattle.client_script.specs.Script.{HasVerb, Scripted, plain, writes_of}
pub use Rattle.client_script.specs.declared.line.Line.{Line}
pub use Rattle.client_script.specs.declared.line.Line.TheVariants.{Command, Feed}
pub use Rattle.client_script.specs.declared.line.Target.{Target}
pub use Rattle.client_script.specs.declared.line.Target.TheVariants.{Dvr, Node, Slot}
pub use Rattle.client_script.specs.declared.line.Verb.{Verb}
pub use Rattle.client_script.specs.declared.line.Verb.TheVariants.{Drain, GetStc, Once, ReadWait, Write}
pub use Rattle.client_script.specs.declared.line.Want.{Want}
pub use Rattle.client_script.specs.declared.line.Want.TheVariants.{Add, Close, Open, Pes, Poll, Read, Remove, Section, Size, Start, Stop}
pub use Rattle.dmx_calls.specs.Calls.{Call, invocation_of, response_of}
pub use Rattle.dmx_calls.specs.Invocation.{Invocation}
pub use Rattle.dmx_calls.specs.Response.{Again, Busy, Data, Done, Overflow, Ready, Refused, Response, TapChange, TimedOut}
pub use Rattle.dmx_calls.specs.declared.limits.TheConstants.{DEMUX_NODES, LARGEST_READ}
pub use Rattle.dmx_calls.specs.declared.outcome.Outcome.{Outcome}
pub use Rattle.dmx_calls.specs.declared.outcome.OutcomeKind.{OutcomeKind}
pub use Rattle.dmx_calls.specs.declared.params.Input.TheVariants.{Frontend}
pub use Rattle.dmx_calls.specs.declared.params.Output.{Output}
pub use Rattle.dmx_calls.specs.declared.params.Output.TheVariants.{TsdemuxTap}
pub use Rattle.dmx_calls.specs.declared.reply.Tap.TheVariants.{Attach, Detach, Keep}
pub use Rattle.std.specs.List.{flat_map}
pub use Rattle.std.specs.Option.{option_and_then, option_map, option_or}
pub use Rattle.ts_batch.specs.Batch.{Packets}
pub use Rattle.ts_packet.specs.Cut.{Cut, cut}
pub use Rattle.ts_packet.specs.Cutting.{Cuts, Cutting, bytes_counted, fresh}
pub use Rattle.ts_packet.specs.Fields.{IsPacket, bit, has_adaptation}
pub use Rattle.ts_packet.specs.declared.size.PacketSize.TheVariants.{Of188}
