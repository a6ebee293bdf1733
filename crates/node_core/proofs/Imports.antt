-- The words of others that the proofs of this crate use.
pub use Rattle.dmx_calls.proofs.After.{expired_is, expired_then, facts_closed, facts_free, facts_goes, facts_opened, facts_resized, facts_set_filter, facts_set_pes, facts_started, ledger_still, ledger_told, pids_stay, stays_add, stays_end, stays_pass, stays_poll, stays_read, stays_remove, stays_same_size, stays_stop}
pub use Rattle.dmx_calls.proofs.Edges.{IsCut, cut_of}
pub use Rattle.dmx_calls.proofs.Going.{Stays, begun, capture_begun, capture_stays, more, params_stays, pids_changed, setting_some, tenure_after, tenure_stays}
pub use Rattle.dmx_calls.proofs.Growth.{is_stopped_after, items_quiet, offered_after_expiry, offered_more, offered_stopped}
pub use Rattle.dmx_calls.proofs.Ledgers.{any_more, edge_then, fresh, items-fresh, offered-fresh, rest_of-end}
pub use Rattle.dmx_calls.proofs.Nodes.{demux_keeps}
pub use Rattle.dmx_calls.proofs.Reading.{read_each}
pub use Rattle.dmx_calls.proofs.Unaccepted.{demux_same}
pub use Rattle.dmx_calls.specs.Answer.{ReadTerms, answered_of, expired_of, is_owned_by, is_readable, most_bytes, pending, read_response, read_terms, refusal_to, is_recording}
pub use Rattle.dmx_calls.specs.Capture.{begins, is_stopped, stops}
pub use Rattle.dmx_calls.specs.Facts.{ledger_at, ledger_of, rest_of, rest_of_item, state_of_ledger, unread_of}
pub use Rattle.dmx_calls.specs.History.{event}
pub use Rattle.dmx_calls.specs.Invocation.{Attach, Detach}
pub use Rattle.dmx_calls.specs.Items.{clock_of, item_of, packets_of, pes_items, selected, selects}
unfoldable pub use Rattle.dmx_calls.specs.Items.{expiry, section_items, items}
pub use Rattle.dmx_calls.specs.Ledger.{Misfit, answered, edge_of, keeps, over}
unfoldable pub use Rattle.dmx_calls.specs.Ledger.{edge, joined, total}
pub use Rattle.dmx_calls.specs.Refusal.{add_refusal, is_allocated, is_pes, takes_many}
pub use Rattle.dmx_calls.specs.Response.{Again, Data, Overflow, Ready, TimedOut}
unfoldable pub use Rattle.dmx_calls.specs.Rules.{expired}
pub use Rattle.dmx_calls.specs.Tenure.{has_ended, is_end, owner, setting, size, tenure}
pub use Rattle.dmx_calls.specs.declared.node.State.TheVariants.{Go}
pub use Rattle.dmx_calls.specs.declared.params.Params.{Params as SetParams}
pub use Rattle.dmx_calls.specs.declared.params.Params.TheVariants.{Empty as EmptySet, Pes as PesSet, Section as SectionSet}
pub use Rattle.dmx_calls.specs.declared.params.PesParams.{PesParams}
pub use Rattle.dmx_calls.specs.declared.params.SectionParams.{SectionParams}
pub use Rattle.dmx_calls.specs.declared.reply.Errno.{Errno}
pub use Rattle.dmx_calls.specs.declared.reply.Errno.TheVariants.{Ebadf, Einval}
pub use Rattle.item_select.proofs.Selected.{Selects-begun, all-selects, once-spent, spent-selects}
pub use Rattle.item_select.specs.Items.{given_by}
unfoldable pub use Rattle.item_select.specs.Items.{is_selected, items_of}
pub use Rattle.item_select.specs.Selecting.{Follows, is_once}
pub use Rattle.item_select.specs.declared.selector.Give.{Give}
pub use Rattle.lemmas.proofs.Lists.{all_front}
pub use Rattle.node_buffer.proofs.Accepted.{dropping_accepted, read_accepted}
pub use Rattle.node_buffer.proofs.Answering.{read_is}
pub use Rattle.node_buffer.proofs.Arrivals.{around_edge, fits_here, placed_in, with_items-append, with_items-next}
pub use Rattle.node_buffer.proofs.Causing.{causes_by}
pub use Rattle.node_buffer.proofs.Named.{named-next, named-skip, none-named}
pub use Rattle.node_buffer.proofs.Owners.{gives_granted, holds, owned}
pub use Rattle.node_buffer.proofs.ReadCausing.{Readable, expired_either, still_by}
pub use Rattle.node_buffer.proofs.Readings.{answered-expired, expired_at, then_answered, total-expired, total-read}
pub use Rattle.node_buffer.proofs.Rests.{rest_before, rest_none, rest_read}
pub use Rattle.node_buffer.proofs.Silences.{Silent, accepted_of, as_done, as_passed, as_ready, dropping_unless, nothing_of, quiet_of, untold_of}
pub use Rattle.node_buffer.proofs.Standing.{Granted, goes_on, silent, whatever}
pub use Rattle.node_buffer.specs.Inside.Capturing.{expiring, front_length, is_due, read_by, rest_behind, terms_of, with_response, with_stop}
pub use Rattle.node_buffer.specs.Inside.Coherent.{Coherent}
pub use Rattle.node_buffer.specs.declared.filter.Terms.{Terms}
pub use Rattle.node_core.specs.Imports.{AddPid, Causes, Choice, Close, CoherentIn, Decoder, Demux, Empty, End, Entry, Event, Facts, Frontend, GivesBy, History, IMMEDIATE_START, Input, Invocation, Ledger, May, Open, OrNoMemory, Output, Packets, Params, Pass, Passed, Payload, Pes, Poll, Read, RemovePid, Response, Section, Selecting, Selects, SetFilter, SetPes, SetSize, Since, Start, Stop, Tap, TsTap, TsdemuxTap, Whole, after_offer, all_given, begun as begun_selecting, bytes_held, capture, demux, entry_of, facts, has_flag, has_had_its_section, invocation_of, is_accepted, is_named, is_oneshot, is_same_input, is_section, items_found, kept_after, offered, packets_in, params, params_of, pids, pids_of, response_of, response_to, state_of, state_of_filter, timeout_of, total_of, with_items, with_pid, without_pid}
pub use Rattle.node_core.specs.Inside.CoreView.{core_view}
pub use Rattle.node_core.specs.Inside.Gives.{Gives}
pub use Rattle.node_core.specs.Inside.KeptView.{knows_in, knows_of, reply_to}
pub use Rattle.node_core.specs.Inside.Sound.{IsSound, IsSoundBy, IsSoundFor, HasFewPids}
pub use Rattle.node_core.specs.Inside.Step.{Knows, is_taking, moved, next, passed, passed_by}
pub use Rattle.node_core.specs.Offers.{HasSelected, choice_by, choice_of, input_of, is_offered, offers}
pub use Rattle.node_core.specs.Stands.{CoreValue, StandsFor}
pub use Rattle.node_core.specs.declared.kept.Kept.{Kept}
pub use Rattle.node_core.specs.declared.tenure.Tenure.{Tenure}
pub use Rattle.pid_set.specs.declared.set.TheConstants.{ALL_PACKETS}
pub use Rattle.section_parse.proofs.WholeLists.{are_whole}
pub use Rattle.section_parse.specs.Inside.Keeping.{Assembly, cleared, joins_last, longer, opened, repeats_last, taken}
pub use Rattle.section_parse.specs.Sections.{IsSection}
unfoldable pub use Rattle.section_parse.specs.Sections.{sections}
pub use Rattle.section_parse.specs.Segments.{pointed}
pub use Rattle.std.proofs.Common.{Bool, List, None, Option, Some, [], add-one, add_comm, ap, arith, bit_and, drop, drop-drop, false, get_or, inl, length, length-drop, length-take, refl, rules, subst, sym, take, true, zero-add, ℕ, ◌*◌, ◌++◌, ◌+◌, ◌-◌, ◌<◌, ◌||◌, ◌∙◌, ◌∷◌, ◌≡◌, ◌≤◌, Err, Ok, OnErr, OnOk, Result}
pub use Rattle.std.proofs.Math.Bool.{or-false}
pub use Rattle.std.proofs.Math.ListN.{drop_of_length-le}
pub use Rattle.std.proofs.Math.Nat.{sub-add_cancel}
pub use Rattle.std.proofs.Math.Seq.{take-append_seam}
pub use Rattle.std.proofs.lemmas.Bool.{and_parts}
pub use Rattle.std.proofs.lemmas.Bool.Decides.{nat_tests}
pub use Rattle.std.proofs.lemmas.Iterator.Adapters.{option_map_id}
pub use Rattle.std.proofs.lemmas.List.{append-nil, drop-append-le, drop_all, take_all}
pub use Rattle.std.proofs.lemmas.List.Elements.{All-filter, All-take, filter-append, filter_map-append}
pub use Rattle.std.proofs.lemmas.List.Folds.{concat-append}
pub use Rattle.std.proofs.lemmas.List.Sums.{count_by_more_no, count_by_more_yes}
pub use Rattle.std.proofs.lemmas.Nat.Bits.{and_pow}
pub use Rattle.std.proofs.lemmas.Option.{get_or_from_slice_get, slice_get-get_or}
pub use Rattle.std.specs.Int.{bit_at}
pub use Rattle.std.specs.List.{All, concat, filter_map}
pub use Rattle.std.specs.Option.{option_or}
pub use Rattle.std.specs.Prelude.{count_by, filter, fold, if◌then◌else◌, is_some, nat_eq, nat_le, nat_lt, not, option_map, slice_get, ◌&&◌, ◌≢◌}
pub use Rattle.ts_batch.proofs.Named.{named-by}
pub use Rattle.ts_batch.specs.Places.{names}
pub use Rattle.ts_packet.specs.Clean.{carried, is_usable}
unfoldable pub use Rattle.ts_packet.specs.Clean.{clean}
pub use Rattle.ts_packet.specs.Fields.{pid_of, unit_start}
pub use native.Mathlib.Decide.{dec_le}
