use Rattle.std.proofs.Common.{◌≡◌, ℕ, [], vec_len, slice_get, Some}
use Rattle.adapter.proofs.making.empty_rows.Given as goal

abbrev pub invariant-loop : goal.invariant-loop
invariant-loop l = (vec_len l.rows ≡ l.counter) × ((i : ℕ) (r : _) → slice_get l.rows.items i ≡ Some r → r.items ≡ [])
