-- The words of others that the proofs of this crate use.
pub use Rattle.dmx_calls.proofs.Weaving.{woven-length}
pub use Rattle.dmx_calls.specs.Histories.{woven_from}
pub use Rattle.dmx_calls.specs.declared.log.Entry.{Entry as ToldEntry}
pub use Rattle.dmx_calls.specs.declared.reply.Errno.{Errno}
pub use Rattle.dmx_calls.specs.declared.reply.Errno.TheVariants.{Ebadf, Ebusy, Einval, Enospc}
pub use Rattle.dmx_calls.specs.declared.reply.PollError.{PollError}
pub use Rattle.dmx_calls.specs.declared.reply.PollError.TheVariants.{Overflow, Quiet, TimedOut}
pub use Rattle.lemmas.proofs.Lists.{any_of_map}
pub use Rattle.report_text.specs.Acts.{act_text, next_pid_text}
pub use Rattle.report_text.specs.Entries.{entry_text, histories_text, history_text, is_of_client}
unfoldable pub use Rattle.report_text.specs.Entries.{caller_text}
pub use Rattle.report_text.specs.Imports.{Act, Appends, End as EndAct, Fed, LogEntry, Outcome, Passed, Response, StreamHead, before_entry, feeder_acts, feeder_entries, feeder_entry, flat_map, input_text, list_any, node_text, pass_act, told_entry, told_head, woven}
pub use Rattle.report_text.specs.Inside.Pieces.{Adds, AddsPart, AddsSome}
pub use Rattle.report_text.specs.Inside.Sums.{AreAtMost, AreSums}
pub use Rattle.report_text.specs.Inside.Turns.{BreaksBefore, Told, tail_text, turn}
pub use Rattle.report_text.specs.Replies.{response_text}
pub use Rattle.report_text.specs.Report.{client_text, clients_text, end_text, outcome_text, report_of, row_text, tally_text}
pub use Rattle.report_text.specs.Summary.{bytes_read, data_bytes, is_overflow, overflows, sums_text}
pub use Rattle.std.proofs.Common.{Bool, List, Some, [], ap, append-nil, append_assoc, ap₂, arith, codes, cond, decimal, drop, false, get_or, if◌then◌else◌, inl, inr, length, length-append, length-drop, map, nat_lt, option_map, refl, rules, slice_get, subst, suc, sum_by, sym, take, take-add, tests, true, zero, ℕ, ◌*◌, ◌++◌, ◌+◌, ◌-◌, ◌<◌, ◌^◌, ◌||◌, ◌∙◌, ◌∷◌, ◌≡◌, ◌≤◌, ◌⊎◌}
pub use Rattle.std.proofs.KnownBytes.{Appends-nil, Appends-trans}
pub use Rattle.std.proofs.Math.Seq.{drop-nil, take-append-add}
pub use Rattle.std.proofs.lemmas.Bool.Decides.{nat_tests}
pub use Rattle.std.proofs.lemmas.Grind.{flat_map-append}
pub use Rattle.std.proofs.lemmas.Iterator.{YieldsList-from_slice}
pub use Rattle.std.proofs.lemmas.Iterator.Search.{any_from_yields_List}
pub use Rattle.std.proofs.lemmas.List.{flat_map_more, length-map, length-take, take-append-drop, take-append-le, take-take, take_more}
pub use Rattle.std.proofs.lemmas.List.Sums.{sum_by-append, sum_by-cons, sum_by-take-drop}
pub use Rattle.std.proofs.lemmas.Option.{slice_get-map, slice_get_read}
pub use Rattle.std.proofs.lemmas.Result.{on_err_weaker, on_ok_weaker}
pub use Rattle.std.specs.Prelude.{Err, Ok, OnErr, OnOk, Option, Result, slice_index, vec_capacity, vec_len}
