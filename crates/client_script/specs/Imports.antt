-- The words of others that the definitions and clauses of this crate use.
pub use Rattle.byteorder.specs.Endian.{big_bytes, big_number}
pub use Rattle.dmx_abi.specs.Decoded.{decoded}
pub use Rattle.dmx_abi.specs.Layout.{argument_len}
pub use Rattle.dmx_abi.specs.Written.{argument_of, number_of}
pub use Rattle.dmx_abi.specs.declared.request.Request.{Request}
pub use Rattle.dmx_abi.specs.declared.request.Request.TheVariants.{GetStc}
pub use Rattle.dmx_calls.specs.Names.{input_text, output_text}
pub use Rattle.dmx_calls.specs.declared.limits.TheConstants.{LARGEST_READ}
pub use Rattle.dmx_calls.specs.declared.params.Input.{Input}
pub use Rattle.dmx_calls.specs.declared.params.Input.TheVariants.{Dvr, Frontend}
pub use Rattle.dmx_calls.specs.declared.params.Output.{Output}
pub use Rattle.dmx_calls.specs.declared.params.Output.TheVariants.{Decoder, Tap, TsTap, TsdemuxTap}
pub use Rattle.dmx_calls.specs.declared.params.PesParams.{PesParams}
pub use Rattle.dmx_calls.specs.declared.params.SectionParams.{SectionParams}
pub use Rattle.filter_match.specs.Places.{filter_with}
pub use Rattle.filter_match.specs.declared.filter.Place.{Place}
pub use Rattle.filter_match.specs.declared.filter.SectionFilter.{SectionFilter}
pub use Rattle.std.specs.Fmt.{decimal}
pub use Rattle.std.specs.List.{All, count_by, flat_map, position, range_with_len, slice_split}
pub use Rattle.std.specs.Option.{option_map, option_map_or, option_or}
pub use Rattle.std.specs.Result.{result_ok}
pub use Rattle.text_forms.specs.Hex.{hex_bytes, hex_text}
pub use Rattle.text_forms.specs.Names.{client_named, client_text, demux_named, demux_text, slot_named, slot_text}
pub use Rattle.text_forms.specs.Numbers.{number_between}
pub use Rattle.text_forms.specs.Places.{IsFilter, IsSixteenBytes, filter_text, place_named}
pub use Rattle.text_forms.specs.Words.{input_named, is_word, output_named}
