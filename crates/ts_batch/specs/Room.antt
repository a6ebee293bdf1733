-- What a contract sees of a room that packets are gathered in.
use Rattle.std.specs.Prelude.{ℕ, ◌≤◌, List, length, All}
use Rattle.ts_packet.specs.Fields.{IsPacket}

-- the packets in it, in order, and how many it has room for, these among them
pub record Gathered : Type 0 where
  pub packets : List (List ℕ)
  pub most : ℕ

-- what is true of each room: it has at most 64 packets, and room for at most 64
pub record IsGathered (room : Gathered) : Type 0 where
  pub few : length room.packets ≤ 64
  pub packets : All IsPacket room.packets
  pub most : room.most ≤ 64
