-- Bytes in lower-case hexadecimal digits, two for each (this project's own).
use Rattle.std.specs.Prelude.{ℕ, suc, ◌+◌, ◌*◌, ◌-◌, ◌/◌, ◌%◌, ◌&&◌, List, [], ◌∷◌, Option, Some, None, nat_le, nat_lt, if◌then◌else◌}
use Rattle.text_forms.specs.Imports.{flat_map, option_and_then, option_map}

-- the value of a lower-case hexadecimal digit; None where a byte is none
unfoldable pub hex_digit : ℕ → Option ℕ
hex_digit byte =
    if nat_le 48 byte && nat_le byte 57 then Some (byte - 48)
    else (if nat_le 97 byte && nat_le byte 102 then Some (byte - 87) else None)

-- the byte that two of these digits spell
unfoldable pub hex_byte : (high low : ℕ) → Option ℕ
hex_byte high low = option_and_then (λ h. option_map (λ l. h * 16 + l) (hex_digit low)) (hex_digit high)

-- the bytes that a word spells, two digits for each; None where they are more than `most`, or where a digit is none
unfoldable pub hex_bytes : (most : ℕ) → List ℕ → Option (List ℕ)
hex_bytes most [] = Some []
hex_bytes (suc left) (high ∷ low ∷ digits) =
    option_and_then (λ byte. option_map (λ bytes. byte ∷ bytes) (hex_bytes left digits)) (hex_byte high low)
hex_bytes _ _ = None

-- the digit of a value below 16: `0` to `9`, which begin at byte 48, or `a` to `f`, which begin at byte 97
abbrev pub digit_text : ℕ → ℕ
digit_text value = if nat_lt value 10 then 48 + value else 87 + value

-- a byte by its two digits, the greater first
abbrev pub byte_text : ℕ → List ℕ
byte_text byte = digit_text (byte / 16) ∷ digit_text (byte % 16) ∷ []

-- bytes one after another
abbrev pub hex_text : List ℕ → List ℕ
hex_text bytes = flat_map byte_text bytes
