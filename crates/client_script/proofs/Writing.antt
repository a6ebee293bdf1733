-- The bytes that a word spells are those of a write.
use Rattle.client_script.proofs.Imports.{◌≡◌, ◌<◌, ◌≤◌, ◌+◌, ◌*◌, refl, ap, ◌∙◌, ℕ, zero, suc, Bool, false, List, [], ◌∷◌, length, arith, nat_tests, All-nil, All-cons, ◌==◌, Option, Some, None, IsSome, if◌then◌else◌, All, option_map, option_and_then, IsWritten, written_named}
use Rattle.text_forms.specs.Hex.{hex_digit, hex_byte, hex_bytes}

digit_small : (byte digit : ℕ) → hex_digit byte ≡ Some digit → digit < 16
unfolding hex_digit
digit_small byte digit e = grind (arith, nat_tests)

byte_of : (h l : Option ℕ) (byte : ℕ) → ((d : ℕ) → h ≡ Some d → d < 16) → ((d : ℕ) → l ≡ Some d → d < 16) → option_and_then (λ h. option_map (λ l. h * 16 + l) l) h ≡ Some byte → byte < 256
byte_of None l byte high low e = absurd (cc)
byte_of (Some h) None byte high low e = absurd (cc)
byte_of (Some h) (Some l) byte high low e =
    let same : h * 16 + l ≡ byte = cc in
    omega (arith, same, high h refl, low l refl)

byte_small : (high low byte : ℕ) → hex_byte high low ≡ Some byte → byte < 256
unfolding hex_byte
byte_small high low byte e = byte_of (hex_digit high) (hex_digit low) byte (digit_small high) (digit_small low) e

-- what is known of bytes that were read
record AreFew (most : ℕ) (bytes : List ℕ) : Type 0 where
  few : length bytes ≤ most
  each : All (λ byte. byte < 256) bytes

one_more : (left : ℕ) (b : Option ℕ) (more : Option (List ℕ)) (bytes : List ℕ) → ((byte : ℕ) → b ≡ Some byte → byte < 256) → ((rest : List ℕ) → more ≡ Some rest → AreFew left rest)
    → option_and_then (λ byte. option_map (λ bytes. byte ∷ bytes) more) b ≡ Some bytes → AreFew (suc left) bytes
one_more left None more bytes first later e = absurd (cc)
one_more left (Some byte) None bytes first later e = absurd (cc)
one_more left (Some byte) (Some rest) bytes first later e =
    let same : byte ∷ rest ≡ bytes = cc in
    rw (← same) (record { few = omega (arith, (later rest refl).few); each = All-cons (λ byte. byte < 256) byte rest (first byte refl) (later rest refl).each })

bytes_few : (most : ℕ) (word bytes : List ℕ) → hex_bytes most word ≡ Some bytes → AreFew most bytes
unfolding hex_bytes
bytes_few most [] bytes e = let none : [] ≡ bytes = cc in rw (← none) (record { few = omega arith; each = All-nil (λ byte. byte < 256) })
bytes_few zero (high ∷ digits) bytes e = absurd (cc)
bytes_few (suc left) (high ∷ []) bytes e = absurd (cc)
bytes_few (suc left) (high ∷ low ∷ digits) bytes e = one_more left (hex_byte high low) (hex_bytes left digits) bytes (byte_small high low) (bytes_few left digits) e

not_empty : (digit : ℕ) (digits : List ℕ) → (length (digit ∷ digits) == 0) ≡ false
not_empty digit digits = grind (arith, nat_tests)

-- a word that isn't empty spells what its digits spell
spells : (digit : ℕ) (digits : List ℕ) → written_named (digit ∷ digits) ≡ hex_bytes 12032 (digit ∷ digits)
unfolding written_named
spells digit digits = ap (λ (b : Bool). if b then None else hex_bytes 12032 (digit ∷ digits)) (not_empty digit digits)

none_empty : written_named [] ≡ None
unfolding written_named
none_empty = refl

pub spelled : (word bytes : List ℕ) → IsSome (written_named word) → hex_bytes 12032 word ≡ Some bytes → written_named word ≡ Some bytes
spelled [] bytes some e = let no = rw none_empty at some in absurd (cc)
spelled (digit ∷ digits) bytes some e = spells digit digits ∙ e

pub never_none : (word : List ℕ) → IsSome (written_named word) → hex_bytes 12032 word ≡ None → ⊥
never_none [] some e = let no = rw none_empty at some in absurd (cc)
never_none (digit ∷ digits) some e = let no = rw (spells digit digits ∙ e) at some in absurd (cc)

some_bytes : (digit : ℕ) (digits bytes : List ℕ) → hex_bytes 12032 (digit ∷ digits) ≡ Some bytes → 1 ≤ length bytes
unfolding hex_bytes
some_bytes digit digits (byte ∷ bytes) e = omega arith
some_bytes digit [] [] e = absurd (cc)
some_bytes high (low ∷ digits) [] e = never (hex_byte high low) (hex_bytes 12031 digits) e where
  never : (b : Option ℕ) (more : Option (List ℕ)) → option_and_then (λ byte. option_map (λ bytes. byte ∷ bytes) more) b ≡ Some [] → 1 ≤ 0
  never None more e = absurd (cc)
  never (Some byte) None e = absurd (cc)
  never (Some byte) (Some rest) e = absurd (cc)

-- the bytes of a write are 1 to 12,032
pub written_is : (word bytes : List ℕ) → written_named word ≡ Some bytes → IsWritten bytes
written_is [] bytes e = let none = rw none_empty at e in absurd (cc)
written_is (digit ∷ digits) bytes e =
    let read : hex_bytes 12032 (digit ∷ digits) ≡ Some bytes = rw (spells digit digits) at e in
    let known : AreFew 12032 bytes = bytes_few 12032 (digit ∷ digits) bytes read in
    record { some = some_bytes digit digits bytes read; few = known.few; each = known.each }

-- ------ no more of them than digits

short_more : (digits : List ℕ) (b : Option ℕ) (more : Option (List ℕ)) (bytes : List ℕ) → ((rest : List ℕ) → more ≡ Some rest → length rest ≤ length digits)
    → option_and_then (λ byte. option_map (λ bytes. byte ∷ bytes) more) b ≡ Some bytes → length bytes ≤ 2 + length digits
short_more digits None more bytes later e = absurd (cc)
short_more digits (Some byte) None bytes later e = absurd (cc)
short_more digits (Some byte) (Some rest) bytes later e =
    let same : byte ∷ rest ≡ bytes = cc in
    rw (← same) (omega (arith, later rest refl))

hex_short : (most : ℕ) (word bytes : List ℕ) → hex_bytes most word ≡ Some bytes → length bytes ≤ length word
unfolding hex_bytes
hex_short most [] bytes e = let none : [] ≡ bytes = cc in rw (← none) (omega arith)
hex_short zero (high ∷ digits) bytes e = absurd (cc)
hex_short (suc left) (high ∷ []) bytes e = absurd (cc)
hex_short (suc left) (high ∷ low ∷ digits) bytes e = omega (arith, short_more digits (hex_byte high low) (hex_bytes left digits) bytes (hex_short left digits) e)

pub named_short : (word bytes : List ℕ) → written_named word ≡ Some bytes → length bytes ≤ length word
named_short [] bytes e = let none = rw none_empty at e in absurd (cc)
named_short (digit ∷ digits) bytes e =
    let read : hex_bytes 12032 (digit ∷ digits) ≡ Some bytes = rw (spells digit digits) at e in
    hex_short 12032 (digit ∷ digits) bytes read
