-- The words of others that the proofs of this crate use.
pub use Rattle.std.proofs.Common.{Bool, List, None, Option, Some, [], ap, append_assoc, arith, bit_and, drop, eqb, false, get_or, inl, inr, length, length-append, refl, rules, slice_index, suc, sym, take, true, zero, ℕ, ◌*◌, ◌++◌, ◌+◌, ◌-◌, ◌<◌, ◌∙◌, ◌∷◌, ◌≡◌, ◌≢◌, ◌≤◌}
pub use Rattle.std.proofs.Math.Seq.{take-add, take-append_seam}
pub use Rattle.std.proofs.lemmas.Bool.{cases_eq, cases_lt}
pub use Rattle.std.proofs.lemmas.Bool.Decides.{nat_tests}
pub use Rattle.std.proofs.lemmas.List.{append-nil, append_cancel_left, drop-append-le, drop_all, drop_at, get_or-take, length-drop, length-take-le, take-append-drop, take-append-le, take-take, take_rest}
pub use Rattle.std.proofs.lemmas.List.Elements.{All-cons, All-head, All-nil, All-tail}
pub use Rattle.std.proofs.lemmas.Nat.Bits.{and_pow}
pub use Rattle.std.specs.Cmp.{second_so}
pub use Rattle.std.specs.Cmp.Lexicographic.{bytes_decides, pointwise}
pub use Rattle.std.specs.Int.{bit_at}
pub use Rattle.std.specs.List.{flat_map, last_or}
pub use Rattle.std.specs.Prelude.{if◌then◌else◌}
pub use Rattle.ts_packet.specs.Clean.{carried, repeats}
unfoldable pub use Rattle.ts_packet.specs.Clean.{without_repeats_after}
pub use Rattle.ts_packet.specs.Cut.{Cut, join, only_rest, packet_before, skip_before}
unfoldable pub use Rattle.ts_packet.specs.Cut.{cut, in_bytes, cut_after}
pub use Rattle.ts_packet.specs.Cutting.{Cuts, Cutting, IsRest, bytes_counted, fresh}
pub use Rattle.ts_packet.specs.Fields.{IsPacket, counter_of}
pub use Rattle.ts_packet.specs.Pieces.{IsCutOf, IsMadeOf, IsPiece, Piece, bytes_of, packet, skipped}
pub use Rattle.ts_packet.specs.declared.size.PacketSize.{PacketSize}
pub use Rattle.ts_packet.specs.declared.size.PacketSize.TheVariants.{Of188, Of204}
