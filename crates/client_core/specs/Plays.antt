-- What a client plays: how the bytes that it writes to the dvr device fall into packets and batches. A packet is that of
-- ISO/IEC 13818-1, 2.4.3.2, and packets are found as in a stream; that a write's packets pass as one batch is this
-- project's rule.
use Rattle.std.specs.Prelude.{IsSome, is_some, slice_index_or, ◌≡◌, ℕ, ◌+◌, Bool, true, false, List, [], ◌∷◌, ◌++◌, length, Option, Some, None}
use Rattle.client_core.specs.Imports.{Cut, Of188, Packets, Verb, cut, flat_map}
use Rattle.client_script.specs.declared.line.Verb.TheVariants.{Write}

-- the batches of a client's writes
abbrev pub Batches : Type 0
Batches = List (Option Packets)

-- the batch of a write, if it completes a packet
abbrev pub batch_at : Batches → (write : ℕ) → Option Packets
batch_at batches write = slice_index_or batches write None

-- whether what is asked is a write that has a batch
abbrev pub plays_batch : Batches → Verb → Bool
plays_batch batches (Write write) = is_some (batch_at batches write)
plays_batch batches _ = false

-- where a write is said to have a batch, it has one among these
abbrev pub PlaysOf : Batches → Verb → (has_batch : Bool) → Type 0
PlaysOf batches (Write write) has_batch = has_batch ≡ true → IsSome (batch_at batches write)
PlaysOf batches _ has_batch = Unit {0}

-- the batch of these packets, the first of which has this number; none where there is no packet
abbrev pub batch_of : (first : ℕ) → List (List ℕ) → Option Packets
batch_of first [] = None
batch_of first (packet ∷ packets) = Some (record { first = first; packets = packet ∷ packets })

-- The batches of writes, one for each, where `rest` was written before them and completes no packet, and so many packets
-- are whole. A write's batch has the packets that it completes: those of what was left before it and of its bytes.
abbrev pub plays_from : (first : ℕ) → (rest : List ℕ) → (writes : List (List ℕ)) → Batches
plays_from first rest [] = []
plays_from first rest (bytes ∷ writes) =
    let c : Cut = cut Of188 (rest ++ bytes) in
    batch_of first c.packets ∷ plays_from (first + length c.packets) c.rest writes

-- The batches of all writes of a client, in their order.
abbrev pub plays : (writes : List (List ℕ)) → Batches
plays writes = plays_from 0 [] writes

-- the bytes of all writes
abbrev pub joined : List (List ℕ) → List ℕ
joined writes = flat_map (λ bytes. bytes) writes

-- the cutting of the bytes of all writes
abbrev pub cut_of : (writes : List (List ℕ)) → Cut
cut_of writes = cut Of188 (joined writes)

-- ------ what is kept

-- the bytes of the packet that has begun, how many packets are whole, and the batches of the writes
pub record Playing : Type 0 where
  pub rest : List ℕ
  pub count : ℕ
  pub batches : Batches

-- no byte was written
abbrev pub unplayed : Playing
unplayed = record { rest = []; count = 0; batches = [] }

-- one write more
abbrev pub with_write : (bytes : List ℕ) → Playing → Playing
with_write bytes p =
    let c : Cut = cut Of188 (p.rest ++ bytes) in
    record {
      rest = c.rest;
      count = p.count + length c.packets;
      batches = p.batches ++ batch_of p.count c.packets ∷ [];
    }

-- These are all writes so far.
pub record HasPlayed (writes : List (List ℕ)) (p : Playing) : Type 0 where
  pub rest : p.rest ≡ (cut_of writes).rest
  pub count : p.count ≡ length (cut_of writes).packets
  pub batches : p.batches ≡ plays writes

-- the most bytes of a write: those of 64 packets
abbrev pub most_bytes : ℕ
most_bytes = 12032
