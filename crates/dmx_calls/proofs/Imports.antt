-- The words of others that the proofs of this crate use.
pub use Rattle.dmx_calls.specs.Answer.{ReadTerms, first_of, most_bytes, response_of_read, timed_out_of}
unfoldable pub use Rattle.dmx_calls.specs.Answer.{answer}
pub use Rattle.dmx_calls.specs.Calls.{told_entry}
pub use Rattle.dmx_calls.specs.Capture.{begins, dvr_begins, has_flag, moment_of, resizes, stops, unstopped}
unfoldable pub use Rattle.dmx_calls.specs.Capture.{capture, is_stopped, started, dvr_capture, live}
pub use Rattle.dmx_calls.specs.Facts.{Ledger, ledger_at, ledger_of, rest_of, unread_of}
unfoldable pub use Rattle.dmx_calls.specs.Facts.{facts}
pub use Rattle.dmx_calls.specs.Histories.{AreInPlace, before_entry, feeder_acts, feeder_entries, feeder_entry, woven, woven_from, woven_nodes}
pub use Rattle.dmx_calls.specs.History.{Entry, Event, History, Since, after_of, also, entry_of, event, is_empty, newest}
pub use Rattle.dmx_calls.specs.Invocation.{AddPid, Attach, Close, Detach, End, Invocation, Open, Pass, Poll, Read, RemovePid, SetFilter, SetPes, SetSize, Start, Stop}
pub use Rattle.dmx_calls.specs.Items.{Expiry, clock_of, expiry_at, is_oneshot, offered_of, packets_in, packets_of, picked, selected, selects, timeout_of}
unfoldable pub use Rattle.dmx_calls.specs.Items.{items, offered, expiry, section_items}
pub use Rattle.dmx_calls.specs.Laws.{PassesGoBy, UnacceptedChangesNothing}
pub use Rattle.dmx_calls.specs.Ledger.{Misfit, answered_in, arrivals, edge_of, is_overflow, keeps, misfit}
unfoldable pub use Rattle.dmx_calls.specs.Ledger.{answered, edge, over, total, joined}
pub use Rattle.dmx_calls.specs.Legal.{IsLegalFor, May}
pub use Rattle.dmx_calls.specs.Log.{Act, IsFrom, LogEntry, act_of, filled_act, Sources, filled, filled_entry}
pub use Rattle.dmx_calls.specs.Response.{Again, Data, Overflow, Passed, Response, TimedOut, is_accepted}
pub use Rattle.dmx_calls.specs.Rules.{Rules, demux, dvr, tells_timeout}
unfoldable pub use Rattle.dmx_calls.specs.Rules.{expired, is_told, rules_at}
pub use Rattle.dmx_calls.specs.Taps.{is_tapped}
unfoldable pub use Rattle.dmx_calls.specs.Taps.{dvr_items, tap_of}
pub use Rattle.dmx_calls.specs.Tenure.{Empty, Params, Pes, Section, closes, first_pids, is_end, opens, params_in, params_of, pids_after, pids_with, sets, size_in}
unfoldable pub use Rattle.dmx_calls.specs.Tenure.{params, pids, size, tenure, dvr_size, has_ended, owner, setting, size_or}
pub use Rattle.dmx_calls.specs.declared.limits.TheConstants.{DEMUX_NODES, DEMUX_SIZE, IMMEDIATE_START}
pub use Rattle.dmx_calls.specs.declared.params.Input.{Input}
pub use Rattle.dmx_calls.specs.declared.params.Input.TheVariants.{Frontend}
pub use Rattle.dmx_calls.specs.declared.params.PesParams.{PesParams}
pub use Rattle.dmx_calls.specs.declared.params.SectionParams.{SectionParams}
pub use Rattle.section_parse.proofs.WholeLists.{stay}
pub use Rattle.std.proofs.Common.{Bool, List, None, Option, Some, [], add-zero, add_comm, ap, append_assoc, arith, drop, drop-drop, false, length, length-append, length-drop, length-take, map, not, refl, reverse, slice_get, subst, suc, sym, take, true, zero, ℕ, ⊎_elim, ◌++◌, ◌+◌, ◌-◌, ◌<◌, ◌||◌, ◌∙◌, ◌∷◌, ◌≡◌, ◌≤◌}
pub use Rattle.std.proofs.Math.Nat.{sub_self}
pub use Rattle.std.proofs.Math.Seq.{drop-append_seam, drop-length, drop-nil}
pub use Rattle.std.proofs.lemmas.Bool.{eqb-true, lt-ltb, not-false, or_from, or_parts}
pub use Rattle.std.proofs.lemmas.Bool.Decides.{nat_tests}
pub use Rattle.std.proofs.lemmas.List.{append-nil, drop-append-le, length-map, reverse-append, take-append-le, take_all, take_rest, map-append}
pub use Rattle.std.proofs.lemmas.List.Elements.{filter-append}
pub use Rattle.std.proofs.lemmas.List.Folds.{concat-append}
pub use Rattle.std.proofs.lemmas.List.Sums.{sum_by-cons}
pub use Rattle.std.proofs.lemmas.Option.{slice_get-map, slice_get_read}
pub use Rattle.std.specs.List.{concat, list_any}
pub use Rattle.std.specs.Option.{option_or}
pub use Rattle.std.specs.Prelude.{filter, if◌then◌else◌, nat_eq, nat_le, nat_lt, option_map, unwrap_or}
