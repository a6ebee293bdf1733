-- The words of others that the definitions and clauses of this crate use.
pub use Rattle.dmx_calls.specs.Accounted.{IsAccounted}
pub use Rattle.dmx_calls.specs.Answer.{answer}
pub use Rattle.dmx_calls.specs.Capture.{capture}
pub use Rattle.dmx_calls.specs.History.{Entry, History, Since, brought_by, entry_of, event}
pub use Rattle.dmx_calls.specs.Invocation.{Attach, Detach, Invocation, Open, Pass, Read, SetPes, SetSize, Start}
pub use Rattle.dmx_calls.specs.Items.{items}
pub use Rattle.dmx_calls.specs.Laws.{PassesGoBy, UnacceptedChangesNothing}
pub use Rattle.dmx_calls.specs.Ledger.{Misfit, answered, answered_in, over, total}
pub use Rattle.dmx_calls.specs.Legal.{IsLegalFor, May}
pub use Rattle.dmx_calls.specs.Log.{FilledIsTheCall}
pub use Rattle.dmx_calls.specs.Response.{Again, Done, Overflow, Passed, Refused, Response}
pub use Rattle.dmx_calls.specs.Rules.{Rules, demux, dvr}
pub use Rattle.dmx_calls.specs.Tenure.{owner}
pub use Rattle.dmx_calls.specs.declared.params.Input.TheVariants.{Frontend}
pub use Rattle.dmx_calls.specs.declared.params.Output.TheVariants.{TsdemuxTap}
pub use Rattle.dmx_calls.specs.declared.reply.Errno.TheVariants.{Ebadf, Einval}
pub use Rattle.dmx_calls.specs.declared.reply.Tap.TheVariants.{Keep}
pub use Rattle.std.specs.List.{All}
pub use Rattle.ts_packet.specs.Fields.{IsPacket}
