use Rattle.client_script.proofs.Imports.{◌≡◌, ◌-◌, IsFilter, filter_in}
use Rattle.client_script.proofs.Filters.{filter_by}
use Rattle.client_script.proofs.places.read_filter.Given as goal

abbrev pub invariant-places : goal.invariant-places
invariant-places l = record {
  read : filter_in l.initial.words ≡ filter_by l.filter (16 - l._place) l.least l.words;
  range : IsFilter l.filter;
}
