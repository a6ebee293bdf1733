-- How what stands at the front of bytes is read (this project's own).
use Rattle.std.proofs.Common.{zero}
use Rattle.std.specs.Prelude.{◌≡◌, ℕ, suc, ◌++◌, Bool, false, List, [], ◌∷◌, length, take, drop, Option, Some, None, nat_eq, if◌then◌else◌}
use Rattle.report_read.specs.Imports.{hex_byte, is_ascii_digit, number_between, option_map, pointwise, prefix_len}

-- a value that was read and the bytes behind it; None where the bytes don't begin with one
abbrev pub Reading : Type 0 → Type 0
Reading A = Option (A × List ℕ)

-- what is read next, behind what was read
abbrev pub and_then : {A B : Type 0} → Reading A → (A → List ℕ → Reading B) → Reading B
and_then None next = None
and_then (Some read) next = next read.0 read.1

-- the value under a name
abbrev pub made : {A B : Type 0} → (A → B) → Reading A → Reading B
made name reading = and_then reading (λ value bytes. Some (name value, bytes))

-- whether the bytes begin with this text
abbrev pub begins_with : (text bytes : List ℕ) → Bool
begins_with text bytes = pointwise nat_eq (take (length text) bytes) text

-- the bytes behind this text; None where they don't begin with it
abbrev pub behind : (text bytes : List ℕ) → Option (List ℕ)
behind text bytes = if begins_with text bytes then Some (drop (length text) bytes) else None

-- the same of bytes that were left by what stands in front of them, if any were
unfoldable pub gone : (text : List ℕ) → (left : Option (List ℕ)) → Option (List ℕ)
gone text None = None
gone text (Some bytes) = behind text bytes

-- what is read behind this text
abbrev pub past : {B : Type 0} → (text bytes : List ℕ) → (List ℕ → Reading B) → Reading B
past text bytes next = elim (behind text bytes) [ Some rest ↦ next rest | None ↦ None ]

-- what is read behind this text, or else, where it doesn't stand there, something other
abbrev pub choose : {B : Type 0} → (text bytes : List ℕ) → (List ℕ → Reading B) → Reading B → Reading B
choose text bytes next other = elim (behind text bytes) [ Some rest ↦ next rest | None ↦ other ]

-- how many digits stand at the front
abbrev pub digits : List ℕ → ℕ
digits bytes = prefix_len is_ascii_digit bytes

-- the number from `least` to `most` whose digits stand at the front, as many as there are
unfoldable pub number_in : (least most : ℕ) → List ℕ → Reading ℕ
number_in least most bytes =
    option_map (λ n. (n, drop (digits bytes) bytes)) (number_between least most (take (digits bytes) bytes))

-- numbers of 16, 32 and 64 bits
abbrev pub number16 : List ℕ → Reading ℕ
number16 bytes = number_in 0 65535 bytes

abbrev pub number32 : List ℕ → Reading ℕ
number32 bytes = number_in 0 4294967295 bytes

abbrev pub number64 : List ℕ → Reading ℕ
number64 bytes = number_in 0 18446744073709551615 bytes

-- the byte of the two digits at the front
unfoldable pub byte_in : List ℕ → Reading ℕ
byte_in (high ∷ low ∷ bytes) = option_map (λ byte. (byte, bytes)) (hex_byte high low)
byte_in _ = None

-- with one more value in front
abbrev pub with_first : {A : Type 0} → A → (List A × List ℕ) → (List A × List ℕ)
with_first value read = (value ∷ read.0, read.1)

-- the bytes whose digits stand at the front, as many as there are
unfoldable pub bytes_in : List ℕ → (List ℕ × List ℕ)
bytes_in (high ∷ low ∷ bytes) = elim (hex_byte high low) [
  | Some byte ↦ with_first byte (bytes_in bytes)
  | None ↦ ([], high ∷ low ∷ bytes)
]
bytes_in bytes = ([], bytes)

-- whether a digit stands at the front
abbrev pub begins_number : List ℕ → Bool
begins_number [] = false
begins_number (byte ∷ bytes) = is_ascii_digit byte

-- a reader has answered as the definition says, and has left the bytes behind what it read
abbrev pub Reads : {A : Type 0} → Option A → (left : List ℕ) → Reading A → Type 0
Reads (Some value) left reading = reading ≡ Some (value, left)
Reads None left reading = reading ≡ None

-- ------ lists

-- what was read, behind those that were read before
abbrev pub onto : {A : Type 0} → List A → Reading (List A) → Reading (List A)
onto done reading = and_then reading (λ values bytes. Some (done ++ values, bytes))

-- Values one after another, as long as one begins at the front, but no more than `left`.
unfoldable pub many : {A : Type 0} → (begins : List ℕ → Bool) → (one : List ℕ → Reading A)
    → (left : ℕ) → List ℕ
    → Reading (List A)
many begins one zero bytes = Some ([], bytes)
many begins one (suc left) bytes =
    if begins bytes then and_then (one bytes) (λ value bytes. onto (value ∷ []) (many begins one left bytes))
    else Some ([], bytes)

-- The same without a bound: there are no more values than bytes.
abbrev pub all_in : {A : Type 0} → (begins : List ℕ → Bool) → (one : List ℕ → Reading A) → List ℕ
    → Reading (List A)
all_in begins one bytes = many begins one (length bytes) bytes
