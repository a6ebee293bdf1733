-- What holds of a set's fields.
use Rattle.std.specs.Prelude.{◌≡◌, ℕ, false, length}
use Rattle.ts_batch.specs.declared.place_set.PlaceSet.TheInside.{Inside}
use Rattle.ts_batch.specs.Places.{is_in}

-- there is a mark for each of 64 places, and where none is said to be set, none is
pub record SetHolds (s : Inside) : Type 0 where
  pub marks : length s.marks ≡ 64
  pub none : s.some ≡ false → (i : ℕ) → is_in i s.marks ≡ false
