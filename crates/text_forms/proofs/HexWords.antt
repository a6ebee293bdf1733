-- Words of hexadecimal digits, pair by pair, and that bytes in such digits are read again.
use Rattle.text_forms.proofs.Imports.{◌≡◌, ◌≢◌, ◌<◌, ◌≤◌, ◌+◌, ◌-◌, refl, ap, sym, ◌∙◌, ℕ, zero, suc, List, [], ◌∷◌, ◌++◌, length, take, drop, get_or, Bool, true, false, Option, Some, None, arith, append_assoc, append-nil, length-append, nat_tests, All-head, All-tail, take_all, ◌==◌, All, option_map, hex_byte, hex_text, hex_bytes}
use Rattle.text_forms.proofs.HexPairs.{hex_byte-byte_text}

pub pair_some : (high low byte left : ℕ) (rest : List ℕ) → hex_byte high low ≡ Some byte → hex_bytes (suc left) (high ∷ low ∷ rest) ≡ option_map (λ bytes. byte ∷ bytes) (hex_bytes left rest)
unfolding hex_bytes
pair_some high low byte left rest e = rw e refl

pub pair_none : (high low most : ℕ) (rest : List ℕ) → hex_byte high low ≡ None → hex_bytes most (high ∷ low ∷ rest) ≡ None
unfolding hex_bytes
pair_none high low zero rest e = refl
pair_none high low (suc left) rest e = rw e refl

pub too_short : (digits : List ℕ) (most : ℕ) → length digits < 2 → digits ≢ [] → hex_bytes most digits ≡ None
unfolding hex_bytes
too_short [] most few some = absurd (some refl)
too_short (one ∷ []) zero few some = refl
too_short (one ∷ []) (suc left) few some = refl
too_short (one ∷ two ∷ more) most few some = absurd (omega arith)

-- the same for a list that isn't taken apart
pub at_pair : (digits : List ℕ) (byte left : ℕ) → 2 ≤ length digits → hex_byte (get_or digits 0 0) (get_or digits 1 0) ≡ Some byte
    → hex_bytes (suc left) digits ≡ option_map (λ bytes. byte ∷ bytes) (hex_bytes left (take (length digits - 2) (drop 2 digits)))
at_pair [] byte left long e = absurd (omega arith)
at_pair (one ∷ []) byte left long e = absurd (omega arith)
at_pair (one ∷ two ∷ more) byte left long e =
    let all : take (length (one ∷ two ∷ more) - 2) more ≡ more = take_all (length (one ∷ two ∷ more) - 2) more (omega arith) in
    rw all (pair_some one two byte left more e)

pub no_pair : (digits : List ℕ) (most : ℕ) → 2 ≤ length digits → hex_byte (get_or digits 0 0) (get_or digits 1 0) ≡ None → hex_bytes most digits ≡ None
no_pair [] most long e = absurd (omega arith)
no_pair (one ∷ []) most long e = absurd (omega arith)
no_pair (one ∷ two ∷ more) most long e = pair_none one two most more e

pub ruleset pair_steps = (at_pair, no_pair, too_short)

-- where there is no room for a byte, no digit may stand there
pub no_room : (digits : List ℕ) → digits ≢ [] → hex_bytes 0 digits ≡ None
unfolding hex_bytes
no_room [] some = absurd (some refl)
no_room (digit ∷ digits) some = refl

-- ------ a word, pair by pair

-- Of all bytes that a word spells, at most `most`, these are read, and these digits are left.
abbrev pub IsReading : (most : ℕ) (all : Option (List ℕ)) (done digits : List ℕ) → Type 0
IsReading most all done digits = all ≡ option_map (λ more. done ++ more) (hex_bytes (most - length done) digits)

same_option : (o : Option (List ℕ)) → o ≡ option_map (λ more. [] ++ more) o
same_option None = refl
same_option (Some bytes) = refl

pub nothing_read : (most : ℕ) (word : List ℕ) → IsReading most (hex_bytes most word) [] word
nothing_read most word =
    let all : most - 0 ≡ most = omega arith in
    same_option (hex_bytes most word) ∙ ap (λ n. option_map (λ more. [] ++ more) (hex_bytes n word)) (sym all)

two_maps : (done : List ℕ) (byte : ℕ) (o : Option (List ℕ)) → option_map (λ more. done ++ more) (option_map (λ bytes. byte ∷ bytes) o) ≡ option_map (λ more. (done ++ byte ∷ []) ++ more) o
two_maps done byte None = refl
two_maps done byte (Some bytes) = ap Some (sym (append_assoc done (byte ∷ []) bytes))

pub one_read : (most : ℕ) (all : Option (List ℕ)) (done now digits behind : List ℕ) (byte : ℕ) → IsReading most all done digits → length done < most
    → ((left : ℕ) → hex_bytes (suc left) digits ≡ option_map (λ bytes. byte ∷ bytes) (hex_bytes left behind)) → now ≡ done ++ byte ∷ [] → IsReading most all now behind
one_read most all done now digits behind byte is few pair longer =
    let long : length now ≡ length done + 1 = ap length longer ∙ length-append done (byte ∷ []) in
    let room : most - length done ≡ suc (most - length now) = omega (arith, few, long) in
    is ∙ ap (λ n. option_map (λ more. done ++ more) (hex_bytes n digits)) room ∙ ap (λ o. option_map (λ more. done ++ more) o) (pair (most - length now))
    ∙ two_maps done byte (hex_bytes (most - length now) behind) ∙ ap (λ d. option_map (λ more. d ++ more) (hex_bytes (most - length now) behind)) (sym longer)

-- what the tests of a full row and of an empty slice say
full : (n most : ℕ) (b : Bool) → b ≡ (n == most) → b ≡ true → n ≡ most
full n most b test is = grind (arith, nat_tests)

empty : (digits : List ℕ) (b : Bool) → b ≡ (length digits == 0) → b ≡ true → digits ≡ []
empty [] b test is = refl
empty (digit ∷ digits) b test is = absurd (grind (arith, nat_tests))

pub too_many_read : (most : ℕ) (all : Option (List ℕ)) (done digits : List ℕ) (b : Bool) → IsReading most all done digits → b ≡ (length done == most) → b ≡ true → digits ≢ [] → all ≡ None
too_many_read most all done digits b is test on some =
    let room : most - length done ≡ 0 = omega (arith, full (length done) most b test on) in
    is ∙ ap (λ n. option_map (λ more. done ++ more) (hex_bytes n digits)) room ∙ ap (λ o. option_map (λ more. done ++ more) o) (no_room digits some)

pub all_read : (most : ℕ) (all : Option (List ℕ)) (done digits : List ℕ) (b : Bool) → IsReading most all done digits → b ≡ (length digits == 0) → b ≡ true → all ≡ Some done
unfolding hex_bytes
all_read most all done digits b is test on =
    is ∙ ap (λ d. option_map (λ more. done ++ more) (hex_bytes (most - length done) d)) (empty digits b test on) ∙ ap Some (append-nil done)

-- digits of which the test doesn't say that there are none
pub some_left : (digits : List ℕ) (b : Bool) → b ≡ (length digits == 0) → b ≡ false → digits ≢ []
some_left [] b test off = absurd (grind (arith, nat_tests))
some_left (digit ∷ digits) b test off = λ none. absurd (cc)

-- ------ reading what was written

-- bytes in hexadecimal digits are read again
pub hex_bytes-hex_text : (most : ℕ) (bytes : List ℕ) → length bytes ≤ most → All (λ byte. byte < 256) bytes → hex_bytes most (hex_text bytes) ≡ Some bytes
unfolding hex_bytes
hex_bytes-hex_text most [] few all = refl
hex_bytes-hex_text zero (byte ∷ bytes) few all = absurd (omega arith)
hex_bytes-hex_text (suc left) (byte ∷ bytes) few all =
    let first = hex_byte-byte_text byte (All-head (λ b. b < 256) byte bytes all) in
    let later = hex_bytes-hex_text left bytes (omega arith) (All-tail (λ b. b < 256) byte bytes all) in
    rw (first, later) refl
