-- The words of others that the proofs of this crate use.
pub use Rattle.dmx_calls.proofs.Going.{begun, has_ended_after, more, owner_after, size_or_after, tenure_after, tenure_also, tenure_opened}
pub use Rattle.dmx_calls.proofs.Ledgers.{answered_more, edge_cleared, ledger_next, over_cleared, over_more, over_none, total_more, unread_after, unread_rest}
pub use Rattle.dmx_calls.proofs.Nodes.{dvr_capture_stays}
pub use Rattle.dmx_calls.proofs.Reading.{read_each}
pub use Rattle.dmx_calls.proofs.Unaccepted.{dvr_same}
pub use Rattle.dmx_calls.specs.Answer.{ReadTerms, expired_of, is_owned_by, is_same_size, most_bytes, read_response, read_terms, refusal_to}
pub use Rattle.dmx_calls.specs.Capture.{dvr_begins}
unfoldable pub use Rattle.dmx_calls.specs.Capture.{dvr_capture}
pub use Rattle.dmx_calls.specs.Facts.{Ledger, ledger_at, ledger_of}
pub use Rattle.dmx_calls.specs.History.{Event, Since, accepted, also, event}
pub use Rattle.dmx_calls.specs.Invocation.{AddPid, RemovePid, SetFilter, SetPes, Start, Stop}
pub use Rattle.dmx_calls.specs.Items.{is_named, packets_in}
pub use Rattle.dmx_calls.specs.Ledger.{answered_in, is_overflow}
unfoldable pub use Rattle.dmx_calls.specs.Ledger.{answered, over, total, edge, joined}
pub use Rattle.dmx_calls.specs.Refusal.{is_bad_argument, is_for_filters}
pub use Rattle.dmx_calls.specs.Response.{Again, Data, Overflow}
pub use Rattle.dmx_calls.specs.Taps.{tap_after}
unfoldable pub use Rattle.dmx_calls.specs.Taps.{is_tapped, dvr_items, tap_of}
pub use Rattle.dmx_calls.specs.Tenure.{Params, closes, is_end, opens, size_in}
unfoldable pub use Rattle.dmx_calls.specs.Tenure.{dvr_size, has_ended, tenure, owner, size_or}
pub use Rattle.dmx_calls.specs.declared.reply.Errno.TheVariants.{Ebadf, Einval}
pub use Rattle.dvr_core.specs.Imports.{Attach, Causes, Close, CoherentIn, DEMUX_NODES, DVR_SIZE, Detach, Dvr, Empty, End, Entry, Facts, Frontend, History, Input, Invocation, May, Open, Pass, Passed, Poll, Read, Response, SetSize, Tap, begun as begun_ledger, detached_by, dvr, entry_of, invocation_of, is_accepted, is_for_anybody, is_in, list_any, range_with_len, response_of, tap_names, terms_of, total_of, with_items, with_response}
pub use Rattle.dvr_core.specs.Inside.CoreView.{core_view}
pub use Rattle.dvr_core.specs.Inside.Gives.{Gives}
pub use Rattle.dvr_core.specs.Inside.KeptView.{knows_in, reply_to}
pub use Rattle.dvr_core.specs.Inside.Step.{Knows, closed, moved, next, opened_for}
pub use Rattle.dvr_core.specs.Stands.{CoreValue, StandsFor}
pub use Rattle.dvr_core.specs.Tapped.{attached, changed_at, detached, some_names}
unfoldable pub use Rattle.dvr_core.specs.Tapped.{taps_of}
pub use Rattle.lemmas.proofs.Lists.{any_of_map}
pub use Rattle.node_buffer.proofs.Accepted.{dropping_accepted, read_accepted}
pub use Rattle.node_buffer.proofs.Answering.{read_now}
pub use Rattle.node_buffer.proofs.Arrivals.{around_edge, fits_here, placed_in, with_items-next}
pub use Rattle.node_buffer.proofs.Causing.{causes_by}
pub use Rattle.node_buffer.proofs.Named.{named-next, named-skip, none-named}
pub use Rattle.node_buffer.proofs.Owners.{gives_granted, holds}
pub use Rattle.node_buffer.proofs.ReadCausing.{Readable, expired_either}
pub use Rattle.node_buffer.proofs.Silences.{Silent, accepted_of, as_done, as_ready, dropping_unless, nothing_of, quiet_of}
pub use Rattle.node_buffer.proofs.Standing.{Granted, goes_on, silent, whatever}
pub use Rattle.node_buffer.specs.Inside.Capturing.{read_by, with_item}
pub use Rattle.node_buffer.specs.Inside.Coherent.{Coherent}
pub use Rattle.std.proofs.Common.{Bool, List, None, Option, Some, [], add-one, add-zero, ap, arith, drop, false, get_or, inl, length, length-append, map, refl, replicate, rules, set, subst, suc, sym, take, true, zero, zero-add, ℕ, ◌*◌, ◌++◌, ◌+◌, ◌-◌, ◌<◌, ◌||◌, ◌∙◌, ◌∷◌, ◌≡◌, ◌≤◌}
pub use Rattle.std.proofs.Math.Bool.{or-false}
pub use Rattle.std.proofs.Math.Nat.{sub-add_cancel, sub_self}
pub use Rattle.std.proofs.lemmas.Bool.{eqb-true}
pub use Rattle.std.proofs.lemmas.Bool.Decides.{nat_tests}
pub use Rattle.std.proofs.lemmas.Iterator.Adapters.{option_map_id}
pub use Rattle.std.proofs.lemmas.List.{append-nil, drop_all, take_all}
pub use Rattle.std.proofs.lemmas.List.Folds.{list_any_more}
pub use Rattle.std.proofs.lemmas.List.Sums.{count_by_more_no, count_by_more_yes}
pub use Rattle.std.proofs.lemmas.Option.{get_or_from_slice_get, slice_get-get_or}
pub use Rattle.std.specs.Prelude.{count_by, filter, if◌then◌else◌, nat_eq, not, option_map, slice_get, unwrap_or}
