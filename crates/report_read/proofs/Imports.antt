-- The words of others that the proofs of this crate use.
unfoldable pub use Rattle.dmx_calls.specs.Names.{input_text, output_text, pending_text, errno_text}
pub use Rattle.dmx_calls.specs.declared.params.PesParams.{PesParams}
pub use Rattle.dmx_calls.specs.declared.params.SectionParams.{SectionParams}
pub use Rattle.dmx_calls.specs.declared.reply.Errno.{Errno}
pub use Rattle.dmx_calls.specs.declared.reply.Tap.TheVariants.{Attach as AttachTap, Detach as DetachTap, Keep as KeepTap}
pub use Rattle.filter_match.specs.Match.{numbers_below}
pub use Rattle.filter_match.specs.Places.{filter_with, place_at}
pub use Rattle.pid_set.proofs.Rising.{Above, Below, Rising, rising-from}
pub use Rattle.report_read.specs.Imports.{Act, AddPid as AddPidAct, Again, All, Attach as AttachAct, Busy, Close as CloseAct, Data, Detach as DetachAct, Done, End as EndAct, HasBytes, Input, IsFilter, LARGEST_READ, LogEntry, NoMemory, Open as OpenAct, Outcome, OutcomeKind, Output, Overflow, Pass as PassAct, Passed, PidRow, Place, Poll as PollAct, PollError, Read as ReadAct, Ready, Refused, RemovePid as RemovePidAct, Response, SectionFilter, SetFilter as SetFilterAct, SetPes as SetPesAct, SetSize as SetSizeAct, Start as StartAct, Stop as StopAct, Tally, TapChange, TimedOut, Told, ToldNode, entry_text, flat_map, has_pid, hex_byte, is_ascii_digit, passing, text_of, told_entry, told_node_text, with_place}
unfoldable pub use Rattle.report_read.specs.Inside.Entries.{entry_in, front_in}
pub use Rattle.report_read.specs.Inside.Parts.{begins_place, is_full_for}
unfoldable pub use Rattle.report_read.specs.Inside.Parts.{more_pids, more_places, pid_step, place_step, act_in, attach_in, data_in, done_in, filter_in, flag_in, input_in, other_act_in, other_response_in, output_in, overflow_in, pass_in, pending_in, pes_in, pids_in, place_in, plain_act_in, read_in, ready_in, refusal_in, response_in, section_in, tap_in, timed_out_in, who_in}
pub use Rattle.report_read.specs.Inside.Reading.{Reading, all_in, begins_number, begins_with, behind, choose, digits, number16, number32, number64, onto, with_first}
unfoldable pub use Rattle.report_read.specs.Inside.Reading.{bytes_in, gone, many, number_in, byte_in}
pub use Rattle.report_read.specs.Inside.Whole.{clients_in, nodes_in, outcomes_in, rows_in}
unfoldable pub use Rattle.report_read.specs.Inside.Whole.{client_in, node_in, outcome_in, row_in, told_in, counts_in, end_in, kind_in, node_name_in, stc_in, tally_in}
pub use Rattle.report_read.specs.Ranges.{ArePartsInRange, IsActInRange, IsEntryInRange, IsEntryOf, IsInRange, IsKindInRange, IsNodeInRange, IsOutcomeInRange, IsPidSet, IsResponseInRange, IsRowInRange, IsTallyInRange, IsTapInRange}
pub use Rattle.report_read.specs.Report.{IsNoLine, IsNoReport, are_nodes, are_placed, are_rows, told_of}
pub use Rattle.report_text.specs.Acts.{next_pid_text}
unfoldable pub use Rattle.report_text.specs.Acts.{act_text, pids_text}
unfoldable pub use Rattle.report_text.specs.Replies.{response_text, flag_text, data_text, tap_text}
pub use Rattle.report_text.specs.Report.{client_text, clients_text, outcome_text, row_text, tally_text}
unfoldable pub use Rattle.report_text.specs.Report.{end_text, kind_text}
pub use Rattle.std.proofs.Common.{Bool, List, None, Some, [], ap, append-nil, append_assoc, arith, codes, drop, false, fold, get_or, length, length-append, map, nat_le, refl, replicate, rules, suc, sym, take, true, zero, ℕ, ◌%◌, ◌++◌, ◌+◌, ◌-◌, ◌/◌, ◌<◌, ◌^◌, ◌∙◌, ◌∷◌, ◌≡◌, ◌≤◌, subst, take-append-drop, ⊎_elim}
pub use Rattle.std.proofs.Math.Bool.{and-false}
pub use Rattle.std.proofs.Math.Seq.{drop-append_seam, take-append_seam}
pub use Rattle.std.proofs.lemmas.Bool.Decides.{nat_tests}
pub use Rattle.std.proofs.lemmas.Fmt.{decimal_nonempty}
pub use Rattle.std.proofs.lemmas.List.{length-map, map-append, take_all, get_or-set_other, length-set}
pub use Rattle.std.proofs.lemmas.List.Elements.{All-filter, All-from_get_or, All-head, All-map, All-nil, All-push, All-tail}
pub use Rattle.std.specs.Fmt.{decimal}
pub use Rattle.std.specs.List.{filter}
pub use Rattle.std.specs.Prelude.{nat_eq, nat_lt, not, ◌&&◌, ◌==◌, ◌≢◌, Option, slice_index_or}
pub use Rattle.std.specs.Str.{all_ascii_digits}
pub use Rattle.text_forms.proofs.Decimals.{decimal-digits, number_between-decimal}
pub use Rattle.text_forms.proofs.Filters.{zeros-IsFilter}
pub use Rattle.text_forms.proofs.FiltersRead.{at-HasBytes, below_each, filter_text-words, filter_with-filter_places, length-filter_words}
pub use Rattle.text_forms.proofs.HexPairs.{hex_byte-byte_text}
pub use Rattle.text_forms.proofs.PlacesRead.{bytes_behind}
pub use Rattle.text_forms.specs.Hex.{digit_text, hex_text}
unfoldable pub use Rattle.text_forms.specs.Names.{who_text, node_text}
pub use Rattle.text_forms.specs.Places.{filter_places, filter_text, filter_words, is_zero, place_text}
pub use Rattle.std.proofs.lemmas.Grind.{common_steps, get_or-set_at}
