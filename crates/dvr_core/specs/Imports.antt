-- The words of others that the definitions and clauses of this crate use.
pub use Rattle.dmx_calls.specs.Answer.{is_for_anybody, response_to}
pub use Rattle.dmx_calls.specs.Back.{GivesBack}
pub use Rattle.dmx_calls.specs.Calls.{invocation_of, response_of}
pub use Rattle.dmx_calls.specs.Facts.{Facts, Ledger, facts}
pub use Rattle.dmx_calls.specs.History.{Entry, History, entry_of}
pub use Rattle.dmx_calls.specs.Invocation.{Attach, Close, Detach, End, Invocation, Open, Pass, Poll, Read, SetSize}
pub use Rattle.dmx_calls.specs.Items.{is_same_input}
pub use Rattle.dmx_calls.specs.Legal.{IsLegalDvr, May}
pub use Rattle.dmx_calls.specs.Response.{Passed, Response, is_accepted}
pub use Rattle.dmx_calls.specs.Rules.{dvr}
pub use Rattle.dmx_calls.specs.Taps.{Tap, detached_by, tap_names, tap_of}
pub use Rattle.dmx_calls.specs.Tenure.{Empty}
pub use Rattle.dmx_calls.specs.declared.limits.TheConstants.{DEMUX_NODES, DVR_SIZE}
pub use Rattle.dmx_calls.specs.declared.node.NodeKind.TheVariants.{Dvr}
pub use Rattle.dmx_calls.specs.declared.params.Input.{Input}
pub use Rattle.dmx_calls.specs.declared.params.Input.TheVariants.{Frontend}
pub use Rattle.node_buffer.specs.Causes.{Causes}
pub use Rattle.node_buffer.specs.Inside.Capturing.{begun, terms_of, with_items, with_response}
pub use Rattle.node_buffer.specs.Inside.Coherent.{CoherentIn, total_of}
pub use Rattle.node_buffer.specs.Inside.Gives.{GivesBy, OrNoMemory, is_close, owner_refusal}
pub use Rattle.std.specs.List.{list_any, range_with_len}
pub use Rattle.ts_batch.specs.Places.{is_in}
