-- What a stream is made of, with no word of how it is cut: packets, each with the bytes behind it that are passed over,
-- and skipped bytes, in their order, then a rest.
use Rattle.std.specs.Prelude.{◌≡◌, ◌≢◌, ℕ, ◌+◌, List, [], ◌∷◌, ◌++◌, length, All}
use Rattle.std.specs.List.{flat_map}
use Rattle.ts_packet.specs.Cut.{Cut, in_bytes}
use Rattle.ts_packet.specs.Fields.{IsPacket}
use Rattle.ts_packet.specs.Cutting.{IsRest}
use Rattle.ts_packet.specs.declared.size.PacketSize.{PacketSize}

-- a piece of a stream: a packet and the bytes behind it that are passed over, or a byte that was skipped
pub data Piece : Type 0 where
  packet : List ℕ → List ℕ → Piece
  skipped : ℕ → Piece

-- A packet has 188 bytes and begins with the sync byte 0x47, and as many are passed over as it takes up besides. A byte
-- that was skipped isn't 0x47.
abbrev pub IsPiece : PacketSize → Piece → Type 0
IsPiece size (packet bytes over) = IsPacket bytes × (188 + length over ≡ in_bytes size)
IsPiece size (skipped byte) = byte ≢ 0x47

-- the bytes of a piece
abbrev pub bytes_of : Piece → List ℕ
bytes_of (packet bytes over) = bytes ++ over
bytes_of (skipped byte) = byte ∷ []

-- the packets among the pieces, in their order
abbrev pub packets_of : List Piece → List (List ℕ)
packets_of [] = []
packets_of (packet bytes over ∷ pieces) = bytes ∷ packets_of pieces
packets_of (skipped byte ∷ pieces) = packets_of pieces

-- how many bytes were skipped among the pieces
abbrev pub skipped_of : List Piece → ℕ
skipped_of [] = 0
skipped_of (packet bytes over ∷ pieces) = skipped_of pieces
skipped_of (skipped byte ∷ pieces) = skipped_of pieces + 1

-- the stream is these pieces one after another, then this rest
pub record IsMadeOf (size : PacketSize) (stream : List ℕ) (pieces : List Piece) (rest : List ℕ) : Type 0 where
  pub pieces_are : All (IsPiece size) pieces
  pub rest_is : IsRest size rest
  pub whole : stream ≡ flat_map bytes_of pieces ++ rest

-- the packets, the count of skipped bytes and the rest of a cutting are those of these pieces
pub record IsCutOf (pieces : List Piece) (rest : List ℕ) (c : Cut) : Type 0 where
  pub packets : c.packets ≡ packets_of pieces
  pub skips : c.skipped ≡ skipped_of pieces
  pub left : c.rest ≡ rest
