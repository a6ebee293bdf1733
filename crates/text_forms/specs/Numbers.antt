-- How words spell numbers (this project's own). The word of a number is std's `decimal`.
use Rattle.std.specs.Prelude.{ℕ, ◌+◌, ◌*◌, ◌-◌, ◌==◌, ◌&&◌, Bool, not, List, [], ◌∷◌, length, slice_index, Option, Some, None, nat_le, nat_lt, if◌then◌else◌}
use Rattle.text_forms.specs.Imports.{all_ascii_digits}

-- a zero stands before other bytes
abbrev pub has_leading_zero : List ℕ → Bool
has_leading_zero word = nat_lt 1 (length word) && slice_index word 0 == 48

-- a number is decimal digits, at least one, without sign and without a leading zero
abbrev pub is_number : List ℕ → Bool
is_number word = nat_lt 0 (length word) && (not (has_leading_zero word) && all_ascii_digits word)

-- what digits make of the number n that stands before them
unfoldable pub value_after : (n : ℕ) → List ℕ → ℕ
value_after n [] = n
value_after n (digit ∷ digits) = value_after (n * 10 + (digit - 48)) digits

-- the number that digits spell
abbrev pub value_of : List ℕ → ℕ
value_of digits = value_after 0 digits

-- the number that a word spells, where it is one from `least` to `most`
abbrev pub number_between : (least most : ℕ) → List ℕ → Option ℕ
number_between least most word =
    if is_number word && (nat_le least (value_of word) && nat_le (value_of word) most) then Some (value_of word)
    else None
