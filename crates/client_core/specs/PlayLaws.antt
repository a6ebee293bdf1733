-- What holds of the batches of writes.
use Rattle.std.specs.Prelude.{◌≡◌, ℕ, ◌+◌, ◌<◌, ◌≤◌, List, [], length, take, drop, slice_get, All, Option, Some, None, IfSome}
use Rattle.client_core.specs.Imports.{IsPacket, Packets, flat_map}
use Rattle.client_core.specs.Plays.{batch_of, plays, cut_of, most_bytes}

-- the packets of a batch, if there is one
abbrev pub packets_in : Option Packets → List (List ℕ)
packets_in None = []
packets_in (Some batch) = batch.packets

-- the packets that are whole once the first so many writes are made
abbrev pub whole_by : (count : ℕ) → (writes : List (List ℕ)) → List (List ℕ)
whole_by count writes = (cut_of (take count writes)).packets

-- the batch of the packets that the write at this place completes: those that are whole by it and weren't before it, whose
-- first has its place among all as its number
abbrev pub completed : (place : ℕ) → (writes : List (List ℕ)) → Option Packets
completed place writes =
    let before : ℕ = length (whole_by place writes) in batch_of before (drop before (whole_by (place + 1) writes))

-- Joined, the batches are the packets of the bytes of all writes.
abbrev pub AreJoined : Type 0
AreJoined = (writes : List (List ℕ)) → flat_map packets_in (plays writes) ≡ (cut_of writes).packets

-- There are as many batches, empty ones too, as writes.
abbrev pub AreCounted : Type 0
AreCounted = (writes : List (List ℕ)) → length (plays writes) ≡ length writes

-- Each write has its batch, of just the packets whose last byte it brings.
abbrev pub AreCompleted : Type 0
AreCompleted =
    (writes : List (List ℕ)) (place : ℕ) → place < length writes
    → slice_get (plays writes) place ≡ Some (completed place writes)

-- a batch of 1 to 64 packets
pub record IsPlayed (batch : Packets) : Type 0 where
  pub some : 0 < length batch.packets
  pub few : length batch.packets ≤ 64
  pub packets : All IsPacket batch.packets

-- Where no write is too long, each batch has 1 to 64 packets.
abbrev pub AreFew : Type 0
AreFew =
    (writes : List (List ℕ)) → All (λ bytes. length bytes ≤ most_bytes) writes
    → All (λ batch. IfSome batch IsPlayed) (plays writes)

-- the packets of a batch stand among these, from its first on
abbrev pub StandsAmong : (all : List (List ℕ)) → Packets → Type 0
StandsAmong all batch = batch.packets ≡ take (length batch.packets) (drop batch.first all)

-- Each batch is the stretch of all packets that begins with its first.
abbrev pub ArePlaced : Type 0
ArePlaced =
    (writes : List (List ℕ)) → All (λ batch. IfSome batch (StandsAmong (cut_of writes).packets)) (plays writes)
