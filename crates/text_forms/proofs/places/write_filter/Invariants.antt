use Rattle.text_forms.proofs.Imports.{◌≡◌, ◌+◌, ◌*◌, ◌-◌, ◌≤◌, ◌++◌, vec_len, vec_capacity, flat_map, numbers_below, filter_place_text}
use Rattle.text_forms.proofs.places.write_filter.Given as goal

abbrev pub invariant-places : goal.invariant-places
invariant-places l = record {
  written : l.out.items ≡ l.initial.out.items ++ flat_map (filter_place_text l.filter) (numbers_below l.i);
  room : vec_len l.out + 12 * (16 - l.i) ≤ vec_capacity l.out;
  few : vec_len l.out ≤ vec_len l.initial.out + 12 * l.i;
  kept : vec_capacity l.initial.out ≤ vec_capacity l.out;
}
