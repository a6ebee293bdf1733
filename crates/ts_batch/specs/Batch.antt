-- What a contract sees of a batch.
use Rattle.std.specs.Prelude.{ℕ, ◌+◌, ◌^◌, ◌<◌, ◌≤◌, List, length, All}
use Rattle.ts_packet.specs.Fields.{IsPacket}

-- a stretch of a stream's packets: its first packet's number, counted from 0 over the stream, and the packets in order
pub record Packets : Type 0 where
  pub first : ℕ
  pub packets : List (List ℕ)

-- 1 to 64 packets, each of 188 bytes with the sync byte in front, whose numbers fit in 64 bits
pub record IsBatch (b : Packets) : Type 0 where
  pub some : 0 < length b.packets
  pub few : length b.packets ≤ 64
  pub packets : All IsPacket b.packets
  pub numbered : b.first + 64 < 2 ^ 64
