use Rattle.report_read.proofs.Imports.{◌≡◌, IsFilter, more_places}
use Rattle.report_read.proofs.sets.read_more_places.Given as goal

abbrev pub invariant-places : goal.invariant-places
invariant-places l = record {
  so_far : more_places l.most l.fn.first l.fn.bytes ≡ more_places l.left l.filter l.bytes;
  range : IsFilter l.filter;
}

abbrev pub decreases-places : goal.decreases-places
decreases-places l = l.left
