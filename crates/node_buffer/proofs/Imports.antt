-- The words of others that the proofs of this crate use.
pub use Rattle.dmx_calls.proofs.Ledgers.{PlacedIn, ledger_next, over_none, rest_of-end}
pub use Rattle.dmx_calls.proofs.Pieces.{drop_past_first}
pub use Rattle.dmx_calls.proofs.Reading.{read_each}
pub use Rattle.dmx_calls.specs.Answer.{done_dropping, first_of, is_for_anybody, is_owned_by, most_bytes, open_response, read_response, read_terms, response_to, response_unless, timed_out_of}
unfoldable pub use Rattle.dmx_calls.specs.Answer.{answer}
pub use Rattle.dmx_calls.specs.Facts.{ledger_at, rest_of, rest_of_item, unread_of}
unfoldable pub use Rattle.dmx_calls.specs.Facts.{facts}
pub use Rattle.dmx_calls.specs.History.{Entry, History, Since, entry_of, event}
pub use Rattle.dmx_calls.specs.Invocation.{SetFilter, SetPes, Start}
pub use Rattle.dmx_calls.specs.Ledger.{answered, answered_in, edge_of, is_overflow, over}
unfoldable pub use Rattle.dmx_calls.specs.Ledger.{edge, joined, total}
pub use Rattle.dmx_calls.specs.Legal.{May}
pub use Rattle.dmx_calls.specs.Response.{Done, Passed, TapChange, is_accepted}
pub use Rattle.dmx_calls.specs.Rules.{Rules, tells_timeout}
pub use Rattle.dmx_calls.specs.Tenure.{Pes, tenure}
unfoldable pub use Rattle.dmx_calls.specs.Tenure.{owner}
pub use Rattle.dmx_calls.specs.declared.reply.Errno.TheVariants.{Ebadf}
pub use Rattle.dmx_calls.specs.declared.reply.Tap.TheVariants.{Keep as KeepTap}
pub use Rattle.node_buffer.specs.Causes.{Causes, ReadCauses, ReadCausesBy, TakesMemory, gives_bytes, gives_no_bytes}
pub use Rattle.node_buffer.specs.Imports.{Again, Busy, Close, Data, Empty, Errno, Facts, Invocation, Ledger, Misfit, NoMemory, NodeKind, Open, Overflow, Params, PollError, Read, Ready, Refused, Response, Section, SetSize, TimedOut, answer_by, answered_of, expired_of, is_done, is_empty, is_section, keeps, refusal_to, response_of_read, section_length, takes_memory, timeout_of}
pub use Rattle.node_buffer.specs.Inside.BufferView.{CaptureHolds, RingFits, ledger_of, misfit_of}
pub use Rattle.node_buffer.specs.Inside.Capturing.{expiring, front_length, is_due, read_by, rest_with, terms_of, with_item, with_item_by, with_items, with_kept, with_lost, with_misfit, with_response}
pub use Rattle.node_buffer.specs.Inside.Coherent.{Coherent, UnreadFits, total_of}
pub use Rattle.node_buffer.specs.Inside.Gives.{GivesBy, OrNoMemory, owner_refusal}
pub use Rattle.node_buffer.specs.declared.buffer.Capture.{Capture}
pub use Rattle.node_buffer.specs.declared.buffer.Lost.{Lost}
pub use Rattle.node_buffer.specs.declared.filter.Terms.{Terms}
pub use Rattle.section_parse.specs.Sections.{IsSection}
pub use Rattle.std.proofs.Common.{Bool, List, None, Option, Some, [], add-one, add-zero, add_assoc, ap, append_assoc, arith, bit_and, drop, false, get_or, inl, inr, length, length-append, length-drop, length-take, min, one-add, refl, rules, subst, suc, sym, take, true, zero, zero-add, ℕ, ◌*◌, ◌++◌, ◌+◌, ◌-◌, ◌<◌, ◌||◌, ◌∙◌, ◌∷◌, ◌≡◌, ◌≤◌}
pub use Rattle.std.proofs.Math.Seq.{drop-append_seam, drop-nil, take-append-add}
pub use Rattle.std.proofs.lemmas.Bool.{cases_lt}
pub use Rattle.std.proofs.lemmas.Bool.Decides.{nat_tests}
pub use Rattle.std.proofs.lemmas.List.{append-nil, drop_more, take-append-le, take_all}
pub use Rattle.std.proofs.lemmas.List.Elements.{All-head, All-tail}
pub use Rattle.std.proofs.lemmas.List.Folds.{concat-append}
pub use Rattle.std.proofs.lemmas.Nat.Bits.{and_pow}
pub use Rattle.std.specs.Int.{bit_at}
pub use Rattle.std.specs.List.{All, concat}
pub use Rattle.std.specs.Prelude.{filter, if◌then◌else◌, is_some, nat_eq, nat_lt, not, option_map, slice_get, ◌&&◌, ◌⊎◌}
