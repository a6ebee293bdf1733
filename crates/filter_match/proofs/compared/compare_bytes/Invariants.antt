use Rattle.filter_match.proofs.Imports.{◌≡◌, list_all, list_any, numbers_below, equals_at, differs_at}
use Rattle.filter_match.proofs.compared.compare_bytes.Given as goal

abbrev pub invariant-bytes : goal.invariant-bytes
invariant-bytes l = record {
  equals : list_all (equals_at l.filter l.section) (numbers_below l.i) ≡ l.equals;
  differs : list_any (differs_at l.filter l.section) (numbers_below l.i) ≡ l.differs;
}
