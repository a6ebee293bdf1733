-- The session of a number: its script, and 65,536 packets, each chosen by a word of the generator PCG32 (XSH RR 64/32)
-- that has the number as its state, and stream 54.
use Rattle.std.specs.Prelude.{ℕ, ◌+◌, ◌/◌, ◌%◌, ◌==◌, Bool, true, List, [], ◌∷◌, ◌++◌, replicate, nat_le, Option, Some, None, if◌then◌else◌}
use Rattle.std.specs.Int.{w16, w32, w64, to_be_bytes}
use Rattle.std.proofs.Common.{zero, suc}
use Rattle.rand_pcg.specs.Lcg.{Lcg, started, increment_of}
use Rattle.rand_pcg.specs.Pcg.{multiplier_64, pcg32}
use Rattle.section_crc.specs.Crc.{crc}
use Rattle.ts_make.specs.declared.kind.Kind.{Kind}
use Rattle.ts_make.specs.declared.kind.Kind.TheVariants.{Association, Video, Audio, Service, Null}
use Rattle.ts_make.specs.Script.{script}

-- what a word chooses
abbrev pub kind_of : ℕ → Kind
kind_of word =
    if nat_le (word % 16) 9 then Video
    else if nat_le (word % 16) 12 then Audio
    else if word % 16 == 13 then Association
    else if word % 16 == 14 then Null
    else Service

abbrev pub pid_of : Kind → ℕ
pid_of Association = 0
pid_of Video = 256
pid_of Audio = 257
pid_of Service = 512
pid_of Null = 8191

-- the table_id of its section, where it carries one
abbrev pub table_of : Kind → Option ℕ
table_of Association = Some 0x00
table_of Video = None
table_of Audio = None
table_of Service = Some 0x42
table_of Null = None

-- the generator after n words
unfoldable pub generator : ℕ → ℕ → Lcg
generator number zero = started 64 multiplier_64 number (increment_of 64 54)
generator number (suc n) = (pcg32 (generator number n)).1

-- the word of the packet in this place, from 0
abbrev pub word : ℕ → ℕ → ℕ
word number place = (pcg32 (generator number place)).0

-- how many of the first n packets have this PID
unfoldable pub packets_of : ℕ → ℕ → ℕ → ℕ
packets_of number pid zero = 0
packets_of number pid (suc n) =
    if pid_of (kind_of (word number n)) == pid then packets_of number pid n + 1 else packets_of number pid n

-- a packet's first four bytes: no error, no priority, no scrambling, and a payload without an adaptation field
abbrev pub header : Bool → ℕ → ℕ → List ℕ
header unit_start pid counter =
    0x47 ∷ ((if unit_start then 0x40 else 0) + pid / 256) ∷ (pid % 256) ∷ (0x10 + counter) ∷ []

-- the first n bytes of a plain payload: byte j, from 0, is the packet's place plus j, modulo 256
unfoldable pub payload : ℕ → ℕ → List ℕ
payload place zero = []
payload place (suc j) = payload place j ++ (place + j) % 256 ∷ []

-- a section of 20 bytes: a long header with the packet's place in its
-- table_id_extension, the place in eight bytes, and CRC_32
abbrev pub section_front : ℕ → ℕ → List ℕ
section_front table_id place =
    table_id ∷ 0xb0 ∷ 0x11 ∷ (to_be_bytes w16 place ++ (0xc1 ∷ 0x00 ∷ 0x00 ∷ to_be_bytes w64 place))

abbrev pub section : ℕ → ℕ → List ℕ
section table_id place = section_front table_id place ++ to_be_bytes w32 (crc (section_front table_id place))

-- a packet by its kind, its place, its word and its counter: with a section that begins behind a pointer_field 0 and
-- has stuffing behind it, or plain, with a unit start where the word's bits 16 to 18 are 0
abbrev pub carrying : Option ℕ → Kind → ℕ → ℕ → ℕ → List ℕ
carrying (Some table_id) kind place word counter =
    header true (pid_of kind) counter ++ (0x00 ∷ (section table_id place ++ replicate 163 0xff))
carrying None kind place word counter = header (word / 65536 % 8 == 0) (pid_of kind) counter ++ payload place 184

abbrev pub packet : Kind → ℕ → ℕ → ℕ → List ℕ
packet kind place word counter = carrying (table_of kind) kind place word counter

-- the packet in this place: its counter is the number of packets of its PID before it, modulo 16
abbrev pub packet_at : ℕ → ℕ → List ℕ
packet_at number place =
    packet (kind_of (word number place)) place (word number place)
    (packets_of number (pid_of (kind_of (word number place))) place % 16)

-- the bytes of the first n packets
unfoldable pub packets : ℕ → ℕ → List ℕ
packets number zero = []
packets number (suc n) = packets number n ++ packet_at number n

-- the session of a number
unfoldable pub made : ℕ → List ℕ
made number = script ++ packets number 65536
