-- Bytes of 0, and several bytes at once.
use Rattle.section_crc.proofs.Imports.{◌≡◌, ℕ, zero, suc, ◌+◌, ◌*◌, ◌/◌, ◌%◌, ◌^◌, ◌<◌, List, [], ◌∷◌, fold, replicate, length, take, drop, slice_index, refl, sym, ap, ◌∙◌, arith, bit_xor, flat_map, xor_assoc, xor_zero_l, xor_zero_r, xor_lt, take_more, take-append-drop, flat_map-append, fold-append, after_bit, bits_of, entry_of}
use Rattle.section_crc.proofs.Bits.{shifted_by, shifted_by-lt, shifted_by-xor, shifted_by-low, eight-bits, split-sum, top-xor}

-- the register after so many bytes of 0
unfoldable pub zeros : ℕ → ℕ → ℕ
zeros zero r = r
zeros (suc n) r = shifted_by 8 (zeros n r)

pub zeros-in : (n r : ℕ) → zeros (suc n) r ≡ zeros n (shifted_by 8 r)
unfolding zeros
zeros-in zero r = refl
zeros-in (suc n) r = ap (shifted_by 8) (zeros-in n r)

pub zeros-lt : (n r : ℕ) → r < 2 ^ 32 → zeros n r < 2 ^ 32
unfolding zeros
zeros-lt zero r h = h
zeros-lt (suc n) r h = shifted_by-lt 8 (zeros n r) (zeros-lt n r h)

pub zeros-xor : (n a b : ℕ) → a < 2 ^ 32 → b < 2 ^ 32 → zeros n (bit_xor a b) ≡ bit_xor (zeros n a) (zeros n b)
unfolding zeros
zeros-xor zero a b h k = refl
zeros-xor (suc n) a b h k = ap (shifted_by 8) (zeros-xor n a b h k) ∙ shifted_by-xor 8 (zeros n a) (zeros n b) (zeros-lt n a h) (zeros-lt n b k)

-- a byte of 0 is eight bits of 0
pub zero-byte : (r : ℕ) → r < 2 ^ 32 → fold after_bit r (bits_of 0) ≡ shifted_by 8 r
zero-byte r h = eight-bits r 0 h (omega arith) ∙ ap (shifted_by 8) (xor_zero_r r)

fold-zeros : (n r : ℕ) → r < 2 ^ 32 → fold after_bit r (flat_map bits_of (replicate n 0)) ≡ zeros n r
unfolding zeros
fold-zeros zero r h = refl
fold-zeros (suc n) r h =
    ap (λ (m : ℕ). fold after_bit m (flat_map bits_of (replicate n 0))) (zero-byte r h)
    ∙ fold-zeros n (shifted_by 8 r) (shifted_by-lt 8 r h) ∙ sym (zeros-in n r)

-- an entry: its byte at the top, and a byte of 0 more
pub entry-zeros : (n byte : ℕ) → byte < 2 ^ 8 → entry_of n byte ≡ zeros (suc n) (byte * 2 ^ 24)
entry-zeros n byte h =
    ap (λ (m : ℕ). fold after_bit m (flat_map bits_of (replicate n 0))) (eight-bits 0 byte (omega arith) h ∙ ap (shifted_by 8) (xor_zero_l (byte * 2 ^ 24)))
    ∙ fold-zeros n (shifted_by 8 (byte * 2 ^ 24)) (shifted_by-lt 8 (byte * 2 ^ 24) (omega arith)) ∙ sym (zeros-in n (byte * 2 ^ 24))

entry-lt : (n byte : ℕ) → byte < 2 ^ 8 → entry_of n byte < 2 ^ 32
entry-lt n byte h = rw (entry-zeros n byte h) (zeros-lt (suc n) (byte * 2 ^ 24) (omega arith))

-- one byte of 0 more
pub entry-more : (n byte : ℕ) → byte < 2 ^ 8 → fold after_bit (entry_of n byte) (bits_of 0) ≡ entry_of (suc n) byte
unfolding zeros
entry-more n byte h = zero-byte (entry_of n byte) (entry-lt n byte h) ∙ ap (shifted_by 8) (entry-zeros n byte h) ∙ sym (entry-zeros (suc n) byte h)

-- the register after one byte more of a list
pub fold-more : (r : ℕ) (bytes : List ℕ) (i : ℕ) → i < length bytes
    → fold after_bit (fold after_bit r (flat_map bits_of (take i bytes))) (bits_of (slice_index bytes i)) ≡ fold after_bit r (flat_map bits_of (take (i + 1) bytes))
fold-more r bytes i h =
    sym (ap (λ (l : List ℕ). fold after_bit r (flat_map bits_of l)) (take_more bytes i 0 h)
    ∙ ap (fold after_bit r) (flat_map-append bits_of (take i bytes) (slice_index bytes i ∷ []))
    ∙ fold-append after_bit r (flat_map bits_of (take i bytes)) (flat_map bits_of (slice_index bytes i ∷ [])))

-- some bytes and then those behind them
pub fold-cut : (r k : ℕ) (bytes : List ℕ)
    → fold after_bit (fold after_bit r (flat_map bits_of (take k bytes))) (flat_map bits_of (drop k bytes)) ≡ fold after_bit r (flat_map bits_of bytes)
fold-cut r k bytes =
    sym (ap (λ (l : List ℕ). fold after_bit r (flat_map bits_of l)) (sym (take-append-drop k bytes))
    ∙ ap (fold after_bit r) (flat_map-append bits_of (take k bytes) (drop k bytes))
    ∙ fold-append after_bit r (flat_map bits_of (take k bytes)) (flat_map bits_of (drop k bytes)))

-- Of n + 1 bytes that come, the first: what all of them make of the register so far is the sum of entries so far and
-- what they make of the rest of the register.
pub piece-step : (n sum rest r byte : ℕ) → rest < 2 ^ 32 → r < 2 ^ 32 → byte < 2 ^ 8
    → zeros (suc n) r ≡ bit_xor sum (zeros (suc n) rest)
    → zeros n (fold after_bit r (bits_of byte)) ≡ bit_xor (bit_xor sum (entry_of n (bit_xor (rest / 2 ^ 24) byte))) (zeros n (rest % 2 ^ 24 * 2 ^ 8))
piece-step n sum rest r byte h k b e =
    let top : bit_xor (rest / 2 ^ 24) byte < 2 ^ 8 = xor_lt 8 (rest / 2 ^ 24) byte (omega arith) b in
    let low : rest % 2 ^ 24 < 2 ^ 24 = omega arith in
    let i = bit_xor (rest / 2 ^ 24) byte in
    ap (zeros n) (eight-bits r byte k b)
    ∙ sym (zeros-in n (bit_xor r (byte * 2 ^ 24)))
    ∙ zeros-xor (suc n) r (byte * 2 ^ 24) k (omega arith)
    ∙ ap (λ (m : ℕ). bit_xor m (zeros (suc n) (byte * 2 ^ 24))) e
    ∙ xor_assoc sum (zeros (suc n) rest) (zeros (suc n) (byte * 2 ^ 24))
    ∙ ap (bit_xor sum) (sym (zeros-xor (suc n) rest (byte * 2 ^ 24) h (omega arith)))
    ∙ ap (λ (m : ℕ). bit_xor sum (zeros (suc n) m)) (top-xor rest byte ∙ split-sum i (rest % 2 ^ 24) low)
    ∙ ap (bit_xor sum) (zeros-xor (suc n) (i * 2 ^ 24) (rest % 2 ^ 24) (omega arith) (omega arith))
    ∙ ap (λ (m : ℕ). bit_xor sum (bit_xor m (zeros (suc n) (rest % 2 ^ 24)))) (sym (entry-zeros n i top))
    ∙ ap (λ (m : ℕ). bit_xor sum (bit_xor (entry_of n i) m)) (zeros-in n (rest % 2 ^ 24) ∙ ap (zeros n) (shifted_by-low (rest % 2 ^ 24) low))
    ∙ sym (xor_assoc sum (entry_of n i) (zeros n (rest % 2 ^ 24 * 2 ^ 8)))
