-- A section filter by its places.
use Rattle.std.specs.Prelude.{ℕ, List, fold, replicate, slice_index, slice_set}
use Rattle.filter_match.specs.declared.filter.SectionFilter.{SectionFilter}
use Rattle.filter_match.specs.declared.filter.Place.{Place}

-- place i of a filter
abbrev pub place_at : SectionFilter → ℕ → Place
place_at f i = record {
  number = i;
  filter = slice_index f.filter i;
  mask = slice_index f.mask i;
  mode = slice_index f.mode i;
}

-- the filter with the bytes of one more place; a filter has the places 0 to 15, and a
-- place of another number changes nothing
unfoldable pub with_place : SectionFilter → Place → SectionFilter
with_place f place = record {
  filter = slice_set f.filter place.number place.filter;
  mask = slice_set f.mask place.number place.mask;
  mode = slice_set f.mode place.number place.mode;
}

-- the filter with these places; in all others the three bytes are 0
abbrev pub filter_with : List Place → SectionFilter
filter_with places =
    fold with_place (record { filter = replicate 16 0; mask = replicate 16 0; mode = replicate 16 0 }) places
