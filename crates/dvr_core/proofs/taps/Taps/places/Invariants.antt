use Rattle.dvr_core.proofs.Imports.{◌≡◌, ℕ, List, take, slice_get, list_any, is_in, tap_names}
use Rattle.std.specs.Prelude.{Some}
use Rattle.dvr_core.proofs.taps.Taps.places.Given as goal

abbrev pub invariant-taps : goal.invariant-taps
invariant-taps l = (n : ℕ) (packet : List ℕ) → slice_get l.batch.packets n ≡ Some packet
    → is_in n l.places ≡ list_any (tap_names packet) (take l.tap-index l.tap-items)
