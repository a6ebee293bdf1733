-- The words of others that the definitions and clauses of this crate use.
pub use Rattle.dmx_calls.specs.Names.{input_text, output_text}
pub use Rattle.dmx_calls.specs.declared.params.Input.{Input}
pub use Rattle.dmx_calls.specs.declared.params.Output.{Output}
pub use Rattle.filter_match.specs.Match.{numbers_below}
pub use Rattle.filter_match.specs.Places.{filter_with, place_at}
pub use Rattle.filter_match.specs.declared.filter.Place.{Place}
pub use Rattle.filter_match.specs.declared.filter.SectionFilter.{SectionFilter}
pub use Rattle.std.specs.Cmp.Lexicographic.{pointwise}
pub use Rattle.std.specs.Fmt.{decimal}
pub use Rattle.std.specs.Global.{Global}
pub use Rattle.std.specs.List.{All, filter, flat_map, list_all}
pub use Rattle.std.specs.Option.{option_and_then, option_map}
pub use Rattle.std.specs.Str.{all_ascii_digits}
