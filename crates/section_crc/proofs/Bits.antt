-- Eight bits at once.
use Rattle.section_crc.proofs.Imports.{◌≡◌, ℕ, zero, suc, ◌+◌, ◌*◌, ◌/◌, ◌%◌, ◌^◌, ◌<◌, fold, refl, sym, ap, ◌∙◌, arith, bit_xor, xor_zero_l, xor_zero_r, xor_lt, xor_block, after_bit, bits_of, bit_at}
use Rattle.section_crc.proofs.Linear.{shifted, shift_low, shifted-xor, after_bit-lt, step-sum}

-- n bits of 0
unfoldable pub shifted_by : ℕ → ℕ → ℕ
shifted_by zero r = r
shifted_by (suc n) r = shifted (shifted_by n r)

pub shifted_by-lt : (n a : ℕ) → a < 2 ^ 32 → shifted_by n a < 2 ^ 32
unfolding shifted_by
shifted_by-lt zero a h = h
shifted_by-lt (suc n) a h = after_bit-lt (shifted_by n a) 0

pub shifted_by-xor : (n a b : ℕ) → a < 2 ^ 32 → b < 2 ^ 32 → shifted_by n (bit_xor a b) ≡ bit_xor (shifted_by n a) (shifted_by n b)
unfolding shifted_by
shifted_by-xor zero a b h k = refl
shifted_by-xor (suc n) a b h k = ap shifted (shifted_by-xor n a b h k) ∙ shifted-xor (shifted_by n a) (shifted_by n b) (shifted_by-lt n a h) (shifted_by-lt n b k)

-- a register below the top bit is only moved
low-step : (a : ℕ) → a < 2 ^ 31 → shifted a ≡ a * 2
low-step a h = shift_low a h ∙ (omega arith)

-- a low part of 24 bits is moved by a byte
pub shifted_by-low : (a : ℕ) → a < 2 ^ 24 → shifted_by 8 a ≡ a * 2 ^ 8
unfolding shifted_by
shifted_by-low a h =
    let e1 : shifted a ≡ a * 2 = low-step a (omega arith) in
    let e2 : shifted (a * 2) ≡ a * 2 * 2 = low-step (a * 2) (omega arith) in
    let e3 : shifted (a * 2 * 2) ≡ a * 2 * 2 * 2 = low-step (a * 2 * 2) (omega arith) in
    let e4 : shifted (a * 2 * 2 * 2) ≡ a * 2 * 2 * 2 * 2 = low-step (a * 2 * 2 * 2) (omega arith) in
    let e5 : shifted (a * 2 * 2 * 2 * 2) ≡ a * 2 * 2 * 2 * 2 * 2 = low-step (a * 2 * 2 * 2 * 2) (omega arith) in
    let e6 : shifted (a * 2 * 2 * 2 * 2 * 2) ≡ a * 2 * 2 * 2 * 2 * 2 * 2 = low-step (a * 2 * 2 * 2 * 2 * 2) (omega arith) in
    let e7 : shifted (a * 2 * 2 * 2 * 2 * 2 * 2) ≡ a * 2 * 2 * 2 * 2 * 2 * 2 * 2 = low-step (a * 2 * 2 * 2 * 2 * 2 * 2) (omega arith) in
    let e8 : shifted (a * 2 * 2 * 2 * 2 * 2 * 2 * 2) ≡ a * 2 * 2 * 2 * 2 * 2 * 2 * 2 * 2 = low-step (a * 2 * 2 * 2 * 2 * 2 * 2 * 2) (omega arith) in
    rw (e1, e2, e3, e4, e5, e6, e7, e8) (omega arith)

-- the register as its top byte and the rest
pub split-sum : (h l : ℕ) → l < 2 ^ 24 → h * 2 ^ 24 + l ≡ bit_xor (h * 2 ^ 24) l
split-sum h l k =
    let x : bit_xor (h * 2 ^ 24 + 0) (0 * 2 ^ 24 + l) ≡ bit_xor h 0 * 2 ^ 24 + bit_xor 0 l = xor_block 24 h 0 0 l (omega arith) k in
    let a : h * 2 ^ 24 + 0 ≡ h * 2 ^ 24 = omega arith in
    let b : 0 * 2 ^ 24 + l ≡ l = omega arith in
    sym (rw (a, b, xor_zero_r h, xor_zero_l l) at x)

pub top-xor : (r byte : ℕ) → bit_xor r (byte * 2 ^ 24) ≡ bit_xor (r / 2 ^ 24) byte * 2 ^ 24 + r % 2 ^ 24
top-xor r byte =
    let x : bit_xor (r / 2 ^ 24 * 2 ^ 24 + r % 2 ^ 24) (byte * 2 ^ 24 + 0) ≡ bit_xor (r / 2 ^ 24) byte * 2 ^ 24 + bit_xor (r % 2 ^ 24) 0 = xor_block 24 (r / 2 ^ 24) byte (r % 2 ^ 24) 0 (omega arith) (omega arith) in
    let a : byte * 2 ^ 24 + 0 ≡ byte * 2 ^ 24 = omega arith in
    let b : r / 2 ^ 24 * 2 ^ 24 + r % 2 ^ 24 ≡ r = omega arith in
    rw (b, a, xor_zero_r (r % 2 ^ 24)) at x

-- the eight bits of a byte are that byte added at the top and eight bits of 0
pub eight-bits : (r byte : ℕ) → r < 2 ^ 32 → byte < 2 ^ 8 → fold after_bit r (bits_of byte) ≡ shifted_by 8 (bit_xor r (byte * 2 ^ 24))
unfolding shifted_by
eight-bits r b h k =
    let r1 = after_bit r (bit_at b 7) in
    let r2 = after_bit r1 (bit_at b 6) in
    let r3 = after_bit r2 (bit_at b 5) in
    let r4 = after_bit r3 (bit_at b 4) in
    let r5 = after_bit r4 (bit_at b 3) in
    let r6 = after_bit r5 (bit_at b 2) in
    let r7 = after_bit r6 (bit_at b 1) in
    let r8 = after_bit r7 (bit_at b 0) in
    let e1 : shifted (bit_xor r (b * 2 ^ 24)) ≡ bit_xor r1 (b % 2 ^ 7 * 2 ^ 25) = step-sum r (b * 2 ^ 24) (bit_at b 7) (b % 2 ^ 7 * 2 ^ 25) h (omega arith) (omega arith) (omega arith) in
    let e2 : shifted (bit_xor r1 (b % 2 ^ 7 * 2 ^ 25)) ≡ bit_xor r2 (b % 2 ^ 6 * 2 ^ 26) = step-sum r1 (b % 2 ^ 7 * 2 ^ 25) (bit_at b 6) (b % 2 ^ 6 * 2 ^ 26) (after_bit-lt _ _) (omega arith) (omega arith) (omega arith) in
    let e3 : shifted (bit_xor r2 (b % 2 ^ 6 * 2 ^ 26)) ≡ bit_xor r3 (b % 2 ^ 5 * 2 ^ 27) = step-sum r2 (b % 2 ^ 6 * 2 ^ 26) (bit_at b 5) (b % 2 ^ 5 * 2 ^ 27) (after_bit-lt _ _) (omega arith) (omega arith) (omega arith) in
    let e4 : shifted (bit_xor r3 (b % 2 ^ 5 * 2 ^ 27)) ≡ bit_xor r4 (b % 2 ^ 4 * 2 ^ 28) = step-sum r3 (b % 2 ^ 5 * 2 ^ 27) (bit_at b 4) (b % 2 ^ 4 * 2 ^ 28) (after_bit-lt _ _) (omega arith) (omega arith) (omega arith) in
    let e5 : shifted (bit_xor r4 (b % 2 ^ 4 * 2 ^ 28)) ≡ bit_xor r5 (b % 2 ^ 3 * 2 ^ 29) = step-sum r4 (b % 2 ^ 4 * 2 ^ 28) (bit_at b 3) (b % 2 ^ 3 * 2 ^ 29) (after_bit-lt _ _) (omega arith) (omega arith) (omega arith) in
    let e6 : shifted (bit_xor r5 (b % 2 ^ 3 * 2 ^ 29)) ≡ bit_xor r6 (b % 2 ^ 2 * 2 ^ 30) = step-sum r5 (b % 2 ^ 3 * 2 ^ 29) (bit_at b 2) (b % 2 ^ 2 * 2 ^ 30) (after_bit-lt _ _) (omega arith) (omega arith) (omega arith) in
    let e7 : shifted (bit_xor r6 (b % 2 ^ 2 * 2 ^ 30)) ≡ bit_xor r7 (b % 2 ^ 1 * 2 ^ 31) = step-sum r6 (b % 2 ^ 2 * 2 ^ 30) (bit_at b 1) (b % 2 ^ 1 * 2 ^ 31) (after_bit-lt _ _) (omega arith) (omega arith) (omega arith) in
    let e8 : shifted (bit_xor r7 (b % 2 ^ 1 * 2 ^ 31)) ≡ bit_xor r8 (b % 2 ^ 0 * 2 ^ 32) = step-sum r7 (b % 2 ^ 1 * 2 ^ 31) (bit_at b 0) (b % 2 ^ 0 * 2 ^ 32) (after_bit-lt _ _) (omega arith) (omega arith) (omega arith) in
    let none : b % 2 ^ 0 * 2 ^ 32 ≡ 0 = omega arith in
    sym (ap (λ (x : ℕ). shifted (shifted (shifted (shifted (shifted (shifted (shifted x))))))) e1
    ∙ ap (λ (x : ℕ). shifted (shifted (shifted (shifted (shifted (shifted x)))))) e2
    ∙ ap (λ (x : ℕ). shifted (shifted (shifted (shifted (shifted x))))) e3
    ∙ ap (λ (x : ℕ). shifted (shifted (shifted (shifted x)))) e4
    ∙ ap (λ (x : ℕ). shifted (shifted (shifted x))) e5
    ∙ ap (λ (x : ℕ). shifted (shifted x)) e6
    ∙ ap shifted e7 ∙ e8 ∙ ap (bit_xor r8) none ∙ xor_zero_r r8)

-- what the register's top byte and the byte that comes leave behind
abbrev pub entry : ℕ → ℕ
entry i = fold after_bit 0 (bits_of i)

-- a byte by a table: the entry of the sum of the register's top byte with the byte, and the rest moved up by a byte
pub byte-by-entry : (r byte : ℕ) → r < 2 ^ 32 → byte < 2 ^ 8
    → fold after_bit r (bits_of byte) ≡ bit_xor (entry (bit_xor (r / 2 ^ 24) byte)) (r % 2 ^ 24 * 2 ^ 8)
byte-by-entry r byte h k =
    let top : bit_xor (r / 2 ^ 24) byte < 2 ^ 8 = xor_lt 8 (r / 2 ^ 24) byte (omega arith) k in
    let low : r % 2 ^ 24 < 2 ^ 24 = omega arith in
    let i = bit_xor (r / 2 ^ 24) byte in
    let e : entry i ≡ shifted_by 8 (i * 2 ^ 24) = eight-bits 0 i (omega arith) top ∙ ap (shifted_by 8) (xor_zero_l (i * 2 ^ 24)) in
    eight-bits r byte h k
    ∙ ap (shifted_by 8) (top-xor r byte ∙ split-sum i (r % 2 ^ 24) low)
    ∙ shifted_by-xor 8 (i * 2 ^ 24) (r % 2 ^ 24) (omega arith) (omega arith)
    ∙ ap (bit_xor (shifted_by 8 (i * 2 ^ 24))) (shifted_by-low (r % 2 ^ 24) low)
    ∙ ap (λ (n : ℕ). bit_xor n (r % 2 ^ 24 * 2 ^ 8)) (sym e)
