-- The words of others that the proofs of this crate use.
pub use Rattle.filter_match.specs.declared.filter.SectionFilter.{SectionFilter}
pub use Rattle.item_select.specs.Inside.SelectorView.{choice_of, selecting_of}
pub use Rattle.item_select.specs.Items.{Choice, Nothing, Packets, Sections, first_if, given_by, is_selected}
unfoldable pub use Rattle.item_select.specs.Items.{items_of}
pub use Rattle.item_select.specs.Laws.{AllAreGiven, OneIsAll, OneIsGiven}
pub use Rattle.item_select.specs.Selecting.{Follows, Gave, Selecting, Selects, begun, bytes_held, is_once, is_ready, listed, section_pid, without_first}
unfoldable pub use Rattle.item_select.specs.Selecting.{after_offer}
pub use Rattle.item_select.specs.declared.selector.Give.{Give}
pub use Rattle.item_select.specs.declared.selector.Give.TheVariants.{Payload, Whole}
pub use Rattle.item_select.specs.declared.selector.Wanted.{Wanted}
pub use Rattle.item_select.specs.declared.selector.Wanted.TheVariants.{Nothing as NothingWanted, Packets as PacketsWanted, Sections as SectionsWanted}
pub use Rattle.lemmas.proofs.Lists.{not_all}
pub use Rattle.section_parse.proofs.Assembled.{Assembled-push, goes, kept-append, kept-stands}
pub use Rattle.section_parse.proofs.WholeLists.{carried-few, stay}
pub use Rattle.section_parse.specs.Inside.Keeping.{Assembly, after_packet, all_given, all_given as all_taken, bytes_kept, cleared, length_of}
unfoldable pub use Rattle.section_parse.specs.Inside.Keeping.{kept}
pub use Rattle.std.proofs.Common.{Bool, Bor, List, None, Option, Some, [], ap, append_assoc, arith, drop, false, filter, length, length-drop, refl, subst, suc, sym, take, true, vec_capacity, ℕ, ◌&&◌, ◌++◌, ◌+◌, ◌||◌, ◌∙◌, ◌∷◌, ◌≡◌, ◌≢◌, ◌≤◌}
pub use Rattle.std.proofs.Math.Bool.{or-false}
pub use Rattle.std.proofs.lemmas.List.{append-nil}
pub use Rattle.std.proofs.lemmas.List.Elements.{filter-append, filter_map-append}
pub use Rattle.std.proofs.lemmas.List.Sums.{sum_by-append, sum_by-cons, sum_by-take-le}
pub use Rattle.std.specs.List.{filter_map, sum_by}
pub use Rattle.std.specs.Prelude.{IfSome, IsNone, option_map, slice_get, ◌↔◌}
pub use Rattle.ts_packet.specs.Fields.{has_payload, payload_of, payload_start}
