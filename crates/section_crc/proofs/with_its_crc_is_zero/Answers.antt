-- A CRC behind its own bytes leaves a register of 0.
use Rattle.section_crc.proofs.with_its_crc_is_zero.Goals as goal
use Rattle.section_crc.proofs.Imports.{◌≡◌, ℕ, ◌*◌, ◌/◌, ◌%◌, ◌^◌, ◌<◌, List, fold, refl, sym, ap, ◌∙◌, arith, bit_xor, xor_zero_l, xor_self, flat_map, flat_map-append, fold-append, bits_of, carried, WithItsCrcIsZero, crc, after_bit}
use Rattle.section_crc.proofs.Linear.{fold-lt}
use Rattle.section_crc.proofs.Bits.{entry, byte-by-entry}

entry-zero : entry 0 ≡ 0
unfolding after_bit
entry-zero = refl

-- the register's own top byte only moves it up
own-byte : (r : ℕ) → r < 2 ^ 32 → fold after_bit r (bits_of (r / 2 ^ 24)) ≡ r % 2 ^ 24 * 2 ^ 8
own-byte r h =
    byte-by-entry r (r / 2 ^ 24) h (omega arith)
    ∙ ap (λ (n : ℕ). bit_xor (entry n) (r % 2 ^ 24 * 2 ^ 8)) (xor_self (r / 2 ^ 24))
    ∙ ap (λ (n : ℕ). bit_xor n (r % 2 ^ 24 * 2 ^ 8)) entry-zero
    ∙ xor_zero_l (r % 2 ^ 24 * 2 ^ 8)

own-byte-at : (r d n : ℕ) → r < 2 ^ 32 → r / 2 ^ 24 ≡ d → r % 2 ^ 24 * 2 ^ 8 ≡ n → fold after_bit r (bits_of d) ≡ n
own-byte-at r d n h top low = ap (λ (b : ℕ). fold after_bit r (bits_of b)) (sym top) ∙ own-byte r h ∙ low

own-bytes : (r : ℕ) → r < 2 ^ 32 → fold after_bit r (flat_map bits_of (carried r)) ≡ 0
own-bytes r h =
    let e1 : fold after_bit r (bits_of (r / 2 ^ 24 % 256)) ≡ r % 2 ^ 24 * 2 ^ 8 = own-byte-at r (r / 2 ^ 24 % 256) (r % 2 ^ 24 * 2 ^ 8) h (omega arith) refl in
    let e2 : fold after_bit (r % 2 ^ 24 * 2 ^ 8) (bits_of (r / 2 ^ 16 % 256)) ≡ r % 2 ^ 16 * 2 ^ 16 = own-byte-at (r % 2 ^ 24 * 2 ^ 8) (r / 2 ^ 16 % 256) (r % 2 ^ 16 * 2 ^ 16) (omega arith) (omega arith) (omega arith) in
    let e3 : fold after_bit (r % 2 ^ 16 * 2 ^ 16) (bits_of (r / 2 ^ 8 % 256)) ≡ r % 2 ^ 8 * 2 ^ 24 = own-byte-at (r % 2 ^ 16 * 2 ^ 16) (r / 2 ^ 8 % 256) (r % 2 ^ 8 * 2 ^ 24) (omega arith) (omega arith) (omega arith) in
    let e4 : fold after_bit (r % 2 ^ 8 * 2 ^ 24) (bits_of (r % 256)) ≡ 0 = own-byte-at (r % 2 ^ 8 * 2 ^ 24) (r % 256) 0 (omega arith) (omega arith) (omega arith) in
    ap (λ (n : ℕ). fold after_bit (fold after_bit (fold after_bit n (bits_of (r / 2 ^ 16 % 256))) (bits_of (r / 2 ^ 8 % 256))) (bits_of (r % 256))) e1
    ∙ ap (λ (n : ℕ). fold after_bit (fold after_bit n (bits_of (r / 2 ^ 8 % 256))) (bits_of (r % 256))) e2
    ∙ ap (λ (n : ℕ). fold after_bit n (bits_of (r % 256))) e3
    ∙ e4

pub with-its-crc : (bytes : List ℕ) → WithItsCrcIsZero bytes
unfolding crc
with-its-crc bytes =
    ap (fold after_bit 0xFFFFFFFF) (flat_map-append bits_of bytes (carried (crc bytes)))
    ∙ fold-append after_bit 0xFFFFFFFF (flat_map bits_of bytes) (flat_map bits_of (carried (crc bytes)))
    ∙ own-bytes (crc bytes) (fold-lt 0xFFFFFFFF (flat_map bits_of bytes) (omega arith))

pub returns : goal.returns
returns c = with-its-crc
