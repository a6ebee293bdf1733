-- What is cut of a stream are packets.
use Rattle.feed_pull.proofs.Imports.{take, nat_le, if◌then◌else◌, ◌==◌, ◌-◌, ◌≡◌, ◌≤◌, refl, ℕ, zero, suc, Bool, true, false, List, [], ◌∷◌, length, arith, All, nat_tests, length-take-le, All-nil, All-cons, IsPacket, in_bytes, packet_before, only_rest, skip_before, PacketSize, at_least}
use Rattle.ts_packet.specs.Cut.{cut, cut_after}

cut_packets : (size : PacketSize) (inside : ℕ) (bytes : List ℕ) → All IsPacket (cut_after size inside bytes).packets
unfolding cut_after
cut_packets size inside [] = All-nil IsPacket
cut_packets size (suc inside) (byte ∷ bytes) = cut_packets size inside bytes
cut_packets size zero (byte ∷ bytes) = go (byte == 71) refl (nat_le (in_bytes size) (length (byte ∷ bytes))) refl (cut_packets size (in_bytes size - 1) bytes) (cut_packets size 0 bytes) where
  go : (b : Bool) → (byte == 71) ≡ b → (c : Bool) → nat_le (in_bytes size) (length (byte ∷ bytes)) ≡ c → All IsPacket (cut_after size (in_bytes size - 1) bytes).packets → All IsPacket (cut_after size 0 bytes).packets
      → All IsPacket (if b then (if c then packet_before (take 188 (byte ∷ bytes)) (cut_after size (in_bytes size - 1) bytes) else only_rest (byte ∷ bytes)) else skip_before (cut_after size 0 bytes)).packets
  go true first true long behind later =
      let e : byte ≡ 71 = grind (arith, nat_tests) in
      let fits : in_bytes size ≤ length (byte ∷ bytes) = grind (arith, nat_tests) in
      let n : 188 ≤ suc (length bytes) = omega (arith, fits, at_least size) in
      All-cons IsPacket (take 188 (byte ∷ bytes)) (cut_after size (in_bytes size - 1) bytes).packets (record { size = length-take-le 188 (byte ∷ bytes) (omega (arith, n)); sync = e }) behind
  go true first false short behind later = All-nil IsPacket
  go false other c is behind later = later

pub are_packets : (size : PacketSize) (bytes : List ℕ) → All IsPacket (cut size bytes).packets
unfolding cut
are_packets size bytes = cut_packets size 0 bytes
