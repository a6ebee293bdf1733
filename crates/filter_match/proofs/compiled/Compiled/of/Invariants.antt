use Rattle.filter_match.proofs.Imports.{◌≡◌, ◌≤◌, ◌+◌, list_any, place_of, numbers_below, negates_at}
use Rattle.filter_match.proofs.Bytes.{ReachesBelow}
use Rattle.filter_match.proofs.compiled.Compiled.of.Given as goal

abbrev pub invariant-masks : goal.invariant-masks
invariant-masks l = record {
  reach : ReachesBelow l.filter l.i l.needed;
  ordered : l.needed ≤ place_of l.i + 1;
  negated : list_any (negates_at l.filter) (numbers_below l.i) ≡ l.negates;
}
