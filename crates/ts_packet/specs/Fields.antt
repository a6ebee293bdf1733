-- The fields of a packet: ISO/IEC 13818-1, 2.4.3.2 and 2.4.3.3 for the header, 2.4.3.4 and 2.4.3.5 for the adaptation
-- field. A packet is the list of its 188 bytes, the first of which is byte 0.
use Rattle.std.specs.Prelude.{◌≡◌, ℕ, ◌+◌, ◌*◌, ◌/◌, ◌%◌, ◌==◌, Bool, ◌&&◌, List, ◌∷◌, length, replicate, drop, slice_index, nat_lt, Option, Some, None, if◌then◌else◌}

-- 188 bytes, the first of them the sync byte 0x47 (sync_byte)
pub record IsPacket (packet : List ℕ) : Type 0 where
  pub size : length packet ≡ 188
  pub sync : slice_index packet 0 ≡ 0x47

-- the bit of a byte that has this weight: 128 for the first bit sent, 1 for the last
abbrev pub bit : ℕ → ℕ → Bool
bit byte weight = byte / weight % 2 == 1

-- transport_error_indicator: the first bit of byte 1
abbrev pub error_bit : List ℕ → Bool
error_bit p = bit (slice_index p 1) 128

-- payload_unit_start_indicator: the second bit of byte 1
abbrev pub unit_start : List ℕ → Bool
unit_start p = bit (slice_index p 1) 64

-- PID: the last 5 bits of byte 1, then byte 2
abbrev pub pid_of : List ℕ → ℕ
pid_of p = slice_index p 1 % 32 * 256 + slice_index p 2

-- continuity_counter: the last 4 bits of byte 3
abbrev pub counter_of : List ℕ → ℕ
counter_of p = slice_index p 3 % 16

-- the first bit of adaptation_field_control, in byte 3: an adaptation field follows the header
abbrev pub has_adaptation : List ℕ → Bool
has_adaptation p = bit (slice_index p 3) 32

-- discontinuity_indicator: the first bit behind adaptation_field_length, where that field has any bytes
abbrev pub discontinuity : List ℕ → Bool
discontinuity p = has_adaptation p && (nat_lt 0 (slice_index p 4) && bit (slice_index p 5) 128)

-- the first place of the payload: behind the header of 4 bytes, or behind the adaptation field, whose length in byte 4
-- doesn't count byte 4 itself
abbrev pub payload_start : List ℕ → ℕ
payload_start p = if has_adaptation p then 5 + slice_index p 4 else 4

-- The second bit of adaptation_field_control, in byte 3, says that there is a payload. That a payload needs a place
-- below 188 as well is this project's rule for adaptation fields that are too long.
abbrev pub has_payload : List ℕ → Bool
has_payload p = bit (slice_index p 3) 16 && nat_lt (payload_start p) 188

-- the payload: the bytes from its first place to the packet's end
abbrev pub payload_of : List ℕ → Option (List ℕ)
payload_of p = if has_payload p then Some (drop (payload_start p) p) else None

-- the null packet: PID 0x1FFF, counter 0, and 184 bytes 0xFF
abbrev pub null_packet : List ℕ
null_packet = 0x47 ∷ 0x1f ∷ 0xff ∷ 0x10 ∷ replicate 184 0xff
