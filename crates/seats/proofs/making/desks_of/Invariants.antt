use Rattle.seats.proofs.Imports.{◌≡◌, ◌+◌, ◌++◌, ℕ, length, map, reverse, Some, slice_get, Desk, IsNew}
use Rattle.seats.proofs.making.desks_of.Given as goal

abbrev pub invariant-clients : goal.invariant-clients
invariant-clients g l = record {
  are : map (λ (d : Desk _). d.seat.client) l.desks.items ≡ l.yielded;
  number : l.number ≡ length l.desks.items;
  each : (c : ℕ) (d : Desk _) → slice_get l.desks.items c ≡ Some d → IsNew (c + 1) d.seat;
  lines : length l.lines.items + length l.yielded ≡ length l.initial.lines.items;
  same : map (λ (d : Desk _). d.line) l.desks.items ++ reverse l.lines.items ≡ reverse l.initial.lines.items;
}
