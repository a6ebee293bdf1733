-- A byte that is written in two digits is read again.
use Rattle.text_forms.proofs.Imports.{◌≡◌, ◌<◌, ◌+◌, ◌*◌, ◌/◌, ◌%◌, ap, ℕ, Some, arith, nat_tests, digit_text, hex_digit, hex_byte}

pub hex_digit-digit_text : (value : ℕ) → value < 16 → hex_digit (digit_text value) ≡ Some value
unfolding hex_digit
hex_digit-digit_text value small = grind (arith, nat_tests)

pub hex_byte-byte_text : (byte : ℕ) → byte < 256 → hex_byte (digit_text (byte / 16)) (digit_text (byte % 16)) ≡ Some byte
unfolding hex_byte
hex_byte-byte_text byte small =
    let high : hex_digit (digit_text (byte / 16)) ≡ Some (byte / 16) = hex_digit-digit_text (byte / 16) (omega arith) in
    let low : hex_digit (digit_text (byte % 16)) ≡ Some (byte % 16) = hex_digit-digit_text (byte % 16) (omega arith) in
    let sum : byte / 16 * 16 + byte % 16 ≡ byte = omega arith in
    rw (high, low) (ap Some sum)
