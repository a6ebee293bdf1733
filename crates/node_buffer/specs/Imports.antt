-- The words of others that the definitions and clauses of this crate use.
pub use Rattle.dmx_calls.specs.Answer.{ReadTerms, answer_by, answered_of, expired_of, is_readable, is_same_size, is_section, over_at_edge, pending, refusal_to, response_of_read}
pub use Rattle.dmx_calls.specs.Calls.{params_of, response_of}
pub use Rattle.dmx_calls.specs.Capture.{has_flag}
pub use Rattle.dmx_calls.specs.Facts.{Facts, Ledger, state_of}
pub use Rattle.dmx_calls.specs.History.{is_empty}
pub use Rattle.dmx_calls.specs.Invocation.{Close, Invocation, Open, Read, SetSize}
pub use Rattle.dmx_calls.specs.Items.{is_oneshot, timeout_of}
pub use Rattle.dmx_calls.specs.Ledger.{Misfit, keeps}
pub use Rattle.dmx_calls.specs.Legal.{is_done, takes_memory}
pub use Rattle.dmx_calls.specs.Refusal.{refusal}
pub use Rattle.dmx_calls.specs.Response.{Again, Busy, Data, NoMemory, Overflow, Ready, Refused, Response, TimedOut}
pub use Rattle.dmx_calls.specs.Tenure.{Empty, Params, Section}
pub use Rattle.dmx_calls.specs.declared.limits.TheConstants.{LARGEST_SIZE, SMALLEST_SIZE}
pub use Rattle.dmx_calls.specs.declared.node.NodeKind.{NodeKind}
pub use Rattle.dmx_calls.specs.declared.node.State.{State}
pub use Rattle.dmx_calls.specs.declared.reply.Errno.{Errno}
pub use Rattle.dmx_calls.specs.declared.reply.PollError.{PollError}
pub use Rattle.section_parse.specs.Sections.{section_length}
