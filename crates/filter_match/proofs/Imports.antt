-- The words of others that the proofs of this crate use.
pub use Rattle.filter_match.specs.Inside.Compiling.{IsCompiled}
pub use Rattle.filter_match.specs.Match.{place_of}
unfoldable pub use Rattle.filter_match.specs.Match.{differences, differs_at, equals_at, negates_at, numbers_below, matches, reaches_at}
pub use Rattle.filter_match.specs.Meaning.{HasMode, IsMatch, bit_of}
pub use Rattle.filter_match.specs.Places.{filter_with}
pub use Rattle.filter_match.specs.declared.filter.SectionFilter.{SectionFilter}
pub use Rattle.lemmas.proofs.Tests.{by_bool}
pub use Rattle.std.proofs.Common.{Bool, IsTrue, List, [], ap, arith, bit_and, bit_xor, cond, false, inl, inr, length, map, min, nat_eq, nat_le, nat_lt, not, refl, rules, slice_index, suc, sym, take, true, w8, zero, ℕ, ◌%◌, ◌&&◌, ◌*◌, ◌+◌, ◌-◌, ◌/◌, ◌<◌, ◌^◌, ◌||◌, ◌↔◌, ◌∙◌, ◌∷◌, ◌≡◌, ◌≢◌, ◌≤◌}
pub use Rattle.std.proofs.Math.Bool.{and-false, and-true, not-not, or-false, or-true}
pub use Rattle.std.proofs.Math.Seq.{take-suc}
pub use Rattle.std.proofs.lemmas.Bool.{and_parts, cases_eq, cases_lt}
pub use Rattle.std.proofs.lemmas.Bool.Decides.{nat_tests}
pub use Rattle.std.proofs.lemmas.List.{get_or-map, get_or-set_other, get_or-set_same, length-map, take_all}
pub use Rattle.std.proofs.lemmas.List.Folds.{list_all-append, list_any-append}
pub use Rattle.std.proofs.lemmas.Nat.{and_le_r}
pub use Rattle.std.proofs.lemmas.Nat.Bits.{bit_at-trailing_zeros, bit_at-zero, bit_at_and, bit_at_not, bit_at_xor}
pub use Rattle.std.proofs.lemmas.Simd.{bitmask_splat, get_or-chunk, get_or-zip2, length-chunk, length-zip2}
pub use Rattle.std.specs.List.{list_all, list_any}
pub use Rattle.std.specs.Simd.Lanes.{chunk, mask_l, zip2}
