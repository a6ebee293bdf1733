-- The bytes of words stand behind the space in ASCII: they are no spaces and no line feeds.
use Rattle.text_forms.proofs.Imports.{◌≡◌, ◌<◌, ◌^◌, ◌/◌, ◌%◌, refl, ℕ, List, [], ◌∷◌, ◌++◌, Bool, true, codes, arith, nat_tests, All-nil, All-cons, All-append, All, list_all, ◌&&◌, nat_lt, all_ascii_digits, decimal, is_ascii_digit, Input, Output, Place, digit_text, byte_text, hex_text, place_text, input_text, output_text}
use Rattle.dmx_calls.specs.declared.params.Input.TheVariants as input
use Rattle.dmx_calls.specs.declared.params.Output.TheVariants as output
use Rattle.text_forms.proofs.Decimals.{decimal-digits}

-- a byte behind the space, which is byte 32
abbrev pub IsVisible : ℕ → Type 0
IsVisible byte = 32 < byte

-- each byte of a word is
abbrev pub AreVisible : List ℕ → Type 0
AreVisible word = All IsVisible word

first_digit : (c : ℕ) (rest : Bool) → (is_ascii_digit c && rest) ≡ true → IsVisible c × (rest ≡ true)
first_digit c rest e = (grind (arith, nat_tests), grind (arith, nat_tests))

digits-visible : (ds : List ℕ) → all_ascii_digits ds ≡ true → AreVisible ds
digits-visible [] e = All-nil IsVisible
digits-visible (c ∷ cs) e =
    let parts = first_digit c (all_ascii_digits cs) e in
    All-cons IsVisible c cs parts.0 (digits-visible cs parts.1)

pub decimal-visible : (n : ℕ) → n < 2 ^ 64 → AreVisible (decimal n)
decimal-visible n small = digits-visible (decimal n) (decimal-digits n small)

pub behind-visible : (letter : ℕ) (word : List ℕ) → IsVisible letter → AreVisible word → AreVisible (letter ∷ word)
behind-visible letter word first rest = All-cons IsVisible letter word first rest

digit_text-visible : (value : ℕ) → IsVisible (digit_text value)
digit_text-visible value = grind (arith, nat_tests)

byte_text-visible : (byte : ℕ) → AreVisible (byte_text byte)
byte_text-visible byte =
    behind-visible (digit_text (byte / 16)) (digit_text (byte % 16) ∷ []) (digit_text-visible (byte / 16))
    (behind-visible (digit_text (byte % 16)) [] (digit_text-visible (byte % 16)) (All-nil IsVisible))

pub hex_text-visible : (bytes : List ℕ) → AreVisible (hex_text bytes)
hex_text-visible [] = All-nil IsVisible
hex_text-visible (byte ∷ bytes) = All-append IsVisible (byte_text byte) (hex_text bytes) (byte_text-visible byte) (hex_text-visible bytes)

-- a byte behind a mark
byte_behind : (mark byte : ℕ) (more : List ℕ) → IsVisible mark → AreVisible more → AreVisible (mark ∷ (byte_text byte ++ more))
byte_behind mark byte more first rest = behind-visible mark (byte_text byte ++ more) first (All-append IsVisible (byte_text byte) more (byte_text-visible byte) rest)

pub place_text-visible : (p : Place) → p.number < 2 ^ 64 → AreVisible (place_text p)
place_text-visible p small =
    let mode : AreVisible (47 ∷ byte_text p.mode) = behind-visible 47 (byte_text p.mode) (omega arith) (byte_text-visible p.mode) in
    let mask : AreVisible (47 ∷ (byte_text p.mask ++ 47 ∷ byte_text p.mode)) = byte_behind 47 p.mask (47 ∷ byte_text p.mode) (omega arith) mode in
    let all : AreVisible (61 ∷ (byte_text p.filter ++ 47 ∷ (byte_text p.mask ++ 47 ∷ byte_text p.mode))) = byte_behind 61 p.filter (47 ∷ (byte_text p.mask ++ 47 ∷ byte_text p.mode)) (omega arith) mask in
    All-append IsVisible (decimal p.number) (61 ∷ (byte_text p.filter ++ 47 ∷ (byte_text p.mask ++ 47 ∷ byte_text p.mode))) (decimal-visible p.number small) all

first_passes : (byte : ℕ) (rest : Bool) → (nat_lt 32 byte && rest) ≡ true → IsVisible byte × (rest ≡ true)
first_passes byte rest e = (grind (arith, nat_tests), grind (arith, nat_tests))

-- the same by a test, for words that are written out
pub visible_by_test : (word : List ℕ) → list_all (nat_lt 32) word ≡ true → AreVisible word
visible_by_test [] e = All-nil IsVisible
visible_by_test (byte ∷ bytes) e =
    let parts = first_passes byte (list_all (nat_lt 32) bytes) e in
    All-cons IsVisible byte bytes parts.0 (visible_by_test bytes parts.1)

pub input_text-visible : (i : Input) → AreVisible (input_text i)
unfolding input_text
input_text-visible input.Frontend = visible_by_test (codes "frontend") refl
input_text-visible input.Dvr = visible_by_test (codes "dvr") refl

pub output_text-visible : (o : Output) → AreVisible (output_text o)
unfolding output_text
output_text-visible output.Decoder = visible_by_test (codes "decoder") refl
output_text-visible output.Tap = visible_by_test (codes "tap") refl
output_text-visible output.TsTap = visible_by_test (codes "ts_tap") refl
output_text-visible output.TsdemuxTap = visible_by_test (codes "tsdemux_tap") refl
