use Rattle.filter_match.proofs.Imports.{◌≡◌, take, filter_with}
use Rattle.filter_match.proofs.filter.SectionFilter.of.Given as goal

abbrev pub invariant-places : goal.invariant-places
invariant-places l = record {
  set : l.filter ≡ filter_with (take l.place-index l.places);
}
