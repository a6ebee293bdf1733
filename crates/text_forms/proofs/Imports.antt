-- The words of others that the proofs of this crate use.
pub use Rattle.dmx_calls.specs.declared.params.Input.TheVariants.{Dvr, Frontend}
pub use Rattle.dmx_calls.specs.declared.params.Output.TheVariants.{Decoder, Tap, TsTap, TsdemuxTap}
pub use Rattle.std.proofs.Common.{Bool, List, None, Option, Some, [], ap, append-nil, append_assoc, arith, codes, drop, false, fold, get_or, length, length-append, map, refl, replicate, rules, slice_index_or, suc, sym, take, true, vec_capacity, vec_len, zero, ℕ, ◌%◌, ◌*◌, ◌++◌, ◌+◌, ◌-◌, ◌/◌, ◌<◌, ◌^◌, ◌∙◌, ◌∷◌, ◌≡◌, ◌≢◌, ◌≤◌}
pub use Rattle.std.proofs.Math.ListN.{set}
pub use Rattle.std.proofs.Math.Numerals.{add-one}
pub use Rattle.std.proofs.Math.Seq.{drop-append_seam, set-append_seam, take-append_seam}
pub use Rattle.std.proofs.lemmas.Bool.Decides.{nat_tests}
pub use Rattle.std.proofs.lemmas.Fmt.{decimal_digit, decimal_nonempty, digits_decimal, digits_value-decimal, first_decimal, length-decimal-le}
pub use Rattle.std.proofs.lemmas.List.{flat_map_more, length-map, length-set, length-take-le, take_all, take_more}
pub use Rattle.std.proofs.lemmas.List.Elements.{All-append, All-cons, All-filter, All-get_or, All-head, All-map, All-nil, All-push, All-replicate, All-set, All-tail}
pub use Rattle.std.proofs.lemmas.List.Filters.{length-filter_both}
pub use Rattle.std.proofs.lemmas.Str.Parse.{FoldsDigits, IsNumeralModel, numerals_by_fold, tells_all_ascii_digits}
pub use Rattle.std.specs.Char.{is_ascii_digit}
pub use Rattle.std.specs.Prelude.{nat_lt, not, ◌&&◌, ◌==◌}
pub use Rattle.text_forms.specs.Hex.{byte_text, digit_text, hex_text}
unfoldable pub use Rattle.text_forms.specs.Hex.{hex_byte, hex_bytes, hex_digit}
pub use Rattle.text_forms.specs.Imports.{All, Input, Output, Place, SectionFilter, all_ascii_digits, decimal, filter, filter_with, flat_map, list_all, numbers_below, option_map, place_at}
pub use Rattle.text_forms.specs.Names.{client_named, client_text, demux_named, demux_text, slot_named, slot_text}
unfoldable pub use Rattle.text_forms.specs.Names.{node_named, node_text, numbered, who_named, who_text}
pub use Rattle.text_forms.specs.Numbers.{has_leading_zero, is_number, number_between, value_of}
unfoldable pub use Rattle.text_forms.specs.Numbers.{value_after}
pub use Rattle.text_forms.specs.Places.{HasBytes, IsFilter, filter_place_text, filter_places, filter_text, filter_words, is_zero, place_text}
unfoldable pub use Rattle.text_forms.specs.Places.{place_named, place_with, places_named}
pub use Rattle.text_forms.specs.Words.{is_word}
unfoldable pub use Rattle.text_forms.specs.Words.{input_named, output_named}
unfoldable pub use Rattle.dmx_calls.specs.Names.{input_text, output_text}
unfoldable pub use Rattle.filter_match.specs.Places.{with_place}
