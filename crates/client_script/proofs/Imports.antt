-- The words of others that the proofs of this crate use.
pub use Rattle.byteorder.specs.Endian.{little_bytes}
pub use Rattle.byteorder.specs.Numbers.{little_number-reads_back}
pub use Rattle.client_script.specs.Grammar.{IsInRange, IsPlain, IsPlainVerb, IsTargetInRange, IsVerbInRange, alone, count_in, in_line, is_passed_over, pid_in, some_said, whole_in}
unfoldable pub use Rattle.client_script.specs.Grammar.{command_in, dvr_named, meaning, name_of, number_in, pes_in, section_in, target_of, asked_in, line_in, line_of, numbered_target, verb_in, write_in}
pub use Rattle.client_script.specs.Imports.{All, GetStc as StcRequest, IsFilter, LARGEST_READ, Place, Request, SectionFilter, argument_of, big_bytes, client_named, client_text, count_by, decimal, flat_map, hex_text, input_text, is_word, number_of, option_map, output_text, place_named, position, range_with_len, slice_split}
unfoldable pub use Rattle.text_forms.specs.Hex.{hex_bytes, hex_byte, hex_digit}
pub use Rattle.client_script.specs.Inside.Part.{FallsInto, HasNoFeed, IsSearched, Passes}
unfoldable pub use Rattle.client_script.specs.Places.{filter_in, places_in}
pub use Rattle.client_script.specs.Requests.{verb_of, want_of}
unfoldable pub use Rattle.client_script.specs.Requests.{request_in, request_number_in, argument_named, ioctl_in, request_number}
pub use Rattle.client_script.specs.Script.{AreNumbered, AreWritten, HasWrite, IsOnDvr, IsScript, Parsed, Scripted, clients_among, is_stream, most_bytes, named_among, named_in, no_writes, parted, plain, script_len, whole_lines, with_said, with_write, without_last, writes_of, written_by}
unfoldable pub use Rattle.client_script.specs.Script.{grammar, lines_from, split}
pub use Rattle.client_script.specs.Spelling.{number_text, said_again, spelling, with_all}
unfoldable pub use Rattle.client_script.specs.Spelling.{arguments_text, bytes_text, command_text, line_text, name_text, pes_text, request_text, section_text, target_text, want_arguments_text, want_text}
pub use Rattle.client_script.specs.Words.{Reading, and_then, mapped, next_as, or_fault, words_of}
unfoldable pub use Rattle.client_script.specs.Words.{word_in}
pub use Rattle.client_script.specs.Writes.{IsWritten}
unfoldable pub use Rattle.client_script.specs.Writes.{written_named}
pub use Rattle.client_script.specs.declared.fault.FaultKind.TheVariants.{Bytes, Client, Command as NoCommand, Name, NoStream, Target as NoTarget}
pub use Rattle.client_script.specs.declared.fault.ScriptFault.{ScriptFault}
pub use Rattle.client_script.specs.declared.line.Line.{Line}
pub use Rattle.client_script.specs.declared.line.Line.TheVariants.{Command, Feed, Tick}
pub use Rattle.client_script.specs.declared.line.Target.{Target}
pub use Rattle.client_script.specs.declared.line.Target.TheVariants.{Dvr, Node, Slot}
pub use Rattle.client_script.specs.declared.line.Verb.{Verb}
pub use Rattle.client_script.specs.declared.line.Verb.TheVariants.{Drain, GetStc, Once, ReadWait, Write}
pub use Rattle.client_script.specs.declared.line.Want.{Want}
pub use Rattle.client_script.specs.declared.line.Want.TheVariants.{Add, Close, Open, Pes, Poll, Read, Remove, Section, Size, Start, Stop}
pub use Rattle.client_script.specs.declared.names.CommandName.{CommandName}
pub use Rattle.client_script.specs.declared.names.CommandName.TheVariants.{Add as AddName, Close as CloseName, Drain as DrainName, Ioctl as IoctlName, Open as OpenName, Pes as PesName, Poll as PollName, Read as ReadName, ReadWait as ReadWaitName, Remove as RemoveName, Section as SectionName, Size as SizeName, Start as StartName, Stop as StopName}
pub use Rattle.client_script.specs.declared.said.Said.{Said}
pub use Rattle.client_script.specs.declared.said.Said.TheVariants.{Asks, Writes}
pub use Rattle.client_script.specs.declared.wanted.NumberName.{NumberName}
pub use Rattle.client_script.specs.declared.wanted.NumberName.TheVariants.{Flags, N, PesType, Pid, Timeout}
pub use Rattle.client_script.specs.declared.wanted.WantedWord.TheVariants.{Byte}
pub use Rattle.dmx_abi.specs.declared.numbers.TheConstants.{GET_STC}
pub use Rattle.filter_match.specs.Places.{place_at}
unfoldable pub use Rattle.filter_match.specs.Places.{with_place}
pub use Rattle.std.proofs.Common.{Bool, List, [], add-one, ap, append-nil, append_assoc, arith, codes, cond, drop, false, fold, get_or, inl, inr, length, length-append, map, nat_eq, refl, rules, subst, suc, sym, take, take-add, true, zero, ℕ, ◌%◌, ◌*◌, ◌++◌, ◌+◌, ◌-◌, ◌/◌, ◌<◌, ◌^◌, ◌∙◌, ◌∷◌, ◌≡◌, ◌≢◌, ◌≤◌, ◌⊎◌}
pub use Rattle.std.proofs.Math.Nat.{mod-lt}
pub use Rattle.std.proofs.Math.Seq.{drop-append-add, drop-cons, take-append-add, take-append_seam}
pub use Rattle.std.proofs.lemmas.Bool.{cases_eq, cases_lt, eq-eqb}
pub use Rattle.std.proofs.lemmas.Bool.Decides.{nat_tests}
pub use Rattle.std.proofs.lemmas.Grind.{flat_map-append}
pub use Rattle.std.proofs.lemmas.List.{drop-append-le, drop-drop, get_or-drop, get_or-replicate, get_or-set_other, get_or-set_same, get_or-take, get_or_default, get_or_past, length-drop, length-set, length-take, length-take-le, map-id, take-append-drop, take-append-le, take-take, take_all, take_rest}
pub use Rattle.std.proofs.lemmas.List.Elements.{All-append, All-cons, All-from_get_or, All-head, All-nil, All-push, All-replicate, All-tail, All-weaker}
pub use Rattle.std.proofs.lemmas.List.FromFn.{map-range_with_len_more}
pub use Rattle.std.proofs.lemmas.List.Quantifiers.{position-Some}
pub use Rattle.std.proofs.lemmas.List.Splits.{length-slice_split, slice_split-cons_no, slice_split-cons_yes, slice_split_at, slice_split_first, slice_split_none}
pub use Rattle.std.proofs.lemmas.List.Sums.{sum_by-cons}
pub use Rattle.std.specs.Int.{byte_at, bytes_low_first}
pub use Rattle.std.specs.List.{onto_first, position_or_len}
pub use Rattle.std.specs.Option.{option_and_then}
pub use Rattle.std.specs.Prelude.{Err, IfSome, IsSome, None, Ok, Option, Result, Some, if◌then◌else◌, is_none, nat_lt, replicate, slice_index_or, slice_set, sum, ◌==◌}
pub use Rattle.text_forms.proofs.Decimals.{number_between-decimal}
pub use Rattle.text_forms.proofs.Filters.{with_place-IsFilter, zeros-IsFilter}
pub use Rattle.text_forms.proofs.FiltersRead.{filter_text-words, filter_with-filter_places, filter_words-each, length-filter_words, places_named-filter_words}
pub use Rattle.text_forms.proofs.HexWords.{hex_bytes-hex_text}
pub use Rattle.text_forms.proofs.NamesRead.{client_named-client_text}
pub use Rattle.text_forms.proofs.Visible.{AreVisible, IsVisible, behind-visible, decimal-visible, hex_text-visible, input_text-visible, output_text-visible, place_text-visible, visible_by_test}
pub use Rattle.text_forms.proofs.WordsRead.{input_named-input_text, output_named-output_text}
pub use Rattle.text_forms.specs.Hex.{digit_text}
pub use Rattle.text_forms.specs.Places.{filter_places, filter_words}
unfoldable pub use Rattle.text_forms.specs.Places.{places_named}
unfoldable pub use Rattle.text_forms.specs.Names.{numbered}
unfoldable pub use Rattle.text_forms.specs.Numbers.{value_after}
