-- The words of others that the definitions and clauses of this crate use.
pub use Rattle.client_core.specs.Commands.{Slots, commands_of, ends_drain, ends_wait, stands, through}
pub use Rattle.client_core.specs.Events.{Ended, Standing, no_slots, progress, slots_after}
pub use Rattle.client_core.specs.Steps.{done}
pub use Rattle.client_core.specs.declared.command.ClientCommand.{ClientCommand}
pub use Rattle.client_core.specs.declared.event.ClientRequest.{ClientRequest}
pub use Rattle.client_core.specs.declared.event.ClientRequest.TheVariants.{Attach, Detach, Own, Pass}
pub use Rattle.client_core.specs.declared.event.Event.{Event}
pub use Rattle.client_core.specs.declared.task.Ending.{Ending}
pub use Rattle.client_core.specs.declared.task.Ending.TheVariants.{AllBusy, Asked, Bound, Made, NoNode}
pub use Rattle.client_script.specs.Script.{Scripted}
pub use Rattle.client_script.specs.declared.line.Target.{Target}
pub use Rattle.client_script.specs.declared.line.Target.TheVariants.{Dvr, Node, Slot}
pub use Rattle.client_script.specs.declared.line.Verb.{Verb}
pub use Rattle.client_script.specs.declared.line.Verb.TheVariants.{Drain, GetStc, Once, ReadWait, Write}
pub use Rattle.client_script.specs.declared.line.Want.{Want}
pub use Rattle.client_script.specs.declared.line.Want.TheVariants.{Open, Poll, Read}
pub use Rattle.dmx_calls.specs.Response.{Busy, Done, Ready, Response}
pub use Rattle.dmx_calls.specs.declared.limits.TheConstants.{DEMUX_NODES}
pub use Rattle.dmx_calls.specs.declared.reply.Tap.TheVariants.{Attach as AttachTap, Detach as DetachTap}
pub use Rattle.std.specs.List.{All, flat_map}
