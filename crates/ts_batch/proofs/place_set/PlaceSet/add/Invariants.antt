use Rattle.ts_batch.proofs.Imports.{◌≡◌, ℕ, ◌<◌, ◌||◌, false, nat_eq, take, length, list_any, is_in}
use Rattle.ts_batch.proofs.place_set.PlaceSet.add.Given as goal

-- the marks are those before, and those of the places so far
abbrev pub invariant-places : goal.invariant-places
invariant-places l = record {
  long : length l.self-inside.marks ≡ 64;
  none : l.self-inside.some ≡ false → (i : ℕ) → is_in i l.self-inside.marks ≡ false;
  marks : (i : ℕ) → i < 64 → is_in i l.self-inside.marks ≡ (is_in i l.initial.self-inside.marks || list_any (nat_eq i) (take l.place-index l.places));
}
