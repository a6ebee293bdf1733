-- The words of others that the proofs of this crate use.
pub use Rattle.lemmas.proofs.Lists.{not_all}
pub use Rattle.section_parse.specs.Inside.Held.{Advances, Held, between, bytes_of, is_drained, unless_stopped, unread}
pub use Rattle.section_parse.specs.Inside.Keeping.{Assembled, Assembly, all_given, bytes_kept, cleared, is_stopped, joins_last, left_of_open, length_of, longer, opened, repeats_last, sections_behind, sections_from, sections_of_open, sections_of_runs, sections_to_come, taken, without_first}
unfoldable pub use Rattle.section_parse.specs.Inside.Keeping.{after_packet, kept, left_after}
pub use Rattle.section_parse.specs.Laws.{IsApart, SectionsAreWhole, SectionsFitThePackets, SectionsLieEndToEnd, SectionsRecover, SectionsStay}
pub use Rattle.section_parse.specs.Sections.{IsSection, has_section, section_length, sections_of_run}
unfoldable pub use Rattle.section_parse.specs.Sections.{read_sections, sections, sections_after}
pub use Rattle.section_parse.specs.Segments.{in_front, is_pointed, pointed, pointer_field}
unfoldable pub use Rattle.section_parse.specs.Segments.{rest_of_segment, segments, runs}
pub use Rattle.std.proofs.Common.{Bool, List, None, Option, Some, [], ap, append_assoc, arith, drop, false, get_or, inl, inr, length, length-append, length-drop, map, not, refl, subst, suc, sym, take, true, zero, ℕ, ◌&&◌, ◌*◌, ◌++◌, ◌+◌, ◌-◌, ◌<◌, ◌||◌, ◌∙◌, ◌∷◌, ◌≡◌, ◌≢◌, ◌≤◌, ◌⊎◌}
pub use Rattle.std.proofs.Math.Seq.{drop-append_seam, take-append_seam}
pub use Rattle.std.proofs.lemmas.Bool.{cases_lt}
pub use Rattle.std.proofs.lemmas.Bool.Decides.{nat_tests}
pub use Rattle.std.proofs.lemmas.Grind.{flat_map-append}
pub use Rattle.std.proofs.lemmas.List.{append-nil, drop-append-le, drop-drop, drop-take, get_or-take, get_or_append_left, length-take, length-take-le, map-append, take-append-drop, take-append-le, take-take, take_all, take_more}
pub use Rattle.std.proofs.lemmas.List.Elements.{All-append, All-cons, All-nil, filter-append}
pub use Rattle.std.proofs.lemmas.List.Sums.{fold-append, sum_by-append, sum_by-cons}
pub use Rattle.std.specs.List.{All, filter, flat_map, fold, last_or, sum_by}
pub use Rattle.std.specs.Option.{option_map}
pub use Rattle.std.specs.Prelude.{IfSome, MatchOption, if◌then◌else◌, min, slice_get}
pub use Rattle.ts_packet.proofs.CleanLemmas.{clean-apart, clean-append, last-clean, without-repeat}
pub use Rattle.ts_packet.specs.Clean.{carried, is_usable, joins, repeats}
unfoldable pub use Rattle.ts_packet.specs.Clean.{clean, without_repeats_after}
pub use Rattle.ts_packet.specs.Fields.{IsPacket, has_adaptation, has_payload, payload_start, unit_start}
