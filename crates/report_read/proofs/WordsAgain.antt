-- Numbers, bytes and words are read again.
use Rattle.report_read.proofs.Imports.{◌≡◌, ◌<◌, ◌≤◌, ◌^◌, refl, ℕ, List, [], ◌∷◌, ◌++◌, Bool, true, false, length, Some, None, arith, nat_tests, All-head, All-tail, take-append_seam, drop-append_seam, ◌&&◌, All, all_ascii_digits, is_ascii_digit, decimal, Input, Output, PollError, hex_text, decimal-digits, number_between-decimal, hex_byte-byte_text, digits, number16, number32, number64, begins_number, input_in, output_in, flag_in, pending_in, input_text, output_text, pending_text, flag_text, number_in, bytes_in}
use Rattle.dmx_calls.specs.declared.params.Input.TheVariants as input
use Rattle.dmx_calls.specs.declared.params.Output.TheVariants as output
use Rattle.dmx_calls.specs.declared.reply.PollError.TheVariants as pending
use Rattle.text_forms.specs.Hex.{hex_digit, hex_byte}

-- ------ numbers

pub first_digit : (d : ℕ) (b : Bool) → (is_ascii_digit d && b) ≡ true → (is_ascii_digit d ≡ true) × (b ≡ true)
first_digit d b e = (grind (arith, nat_tests), grind (arith, nat_tests))

digits-append : (ds rest : List ℕ) → all_ascii_digits ds ≡ true → begins_number rest ≡ false → digits (ds ++ rest) ≡ length ds
digits-append [] [] a b = refl
digits-append [] (x ∷ rest) a b = rw b refl
digits-append (d ∷ ds) rest a b =
    let parts = first_digit d (all_ascii_digits ds) a in
    let later : digits (ds ++ rest) ≡ length ds = digits-append ds rest parts.1 b in
    rw (parts.0, later) (omega arith)

pub number_again : (least most n : ℕ) (rest : List ℕ) → n < 2 ^ 64 → least ≤ n → n ≤ most → begins_number rest ≡ false
    → number_in least most (decimal n ++ rest) ≡ Some (n, rest)
unfolding number_in
number_again least most n rest fits low high stops =
    let d : digits (decimal n ++ rest) ≡ length (decimal n) = digits-append (decimal n) rest (decimal-digits n fits) stops in
    rw (d, take-append_seam (decimal n) rest, drop-append_seam (decimal n) rest, number_between-decimal least most n fits low high) refl

pub number16_again : (n : ℕ) (rest : List ℕ) → n < 65536 → begins_number rest ≡ false → number16 (decimal n ++ rest) ≡ Some (n, rest)
number16_again n rest fits stops = number_again 0 65535 n rest (omega arith) (omega arith) (omega arith) stops

pub number32_again : (n : ℕ) (rest : List ℕ) → n < 4294967296 → begins_number rest ≡ false → number32 (decimal n ++ rest) ≡ Some (n, rest)
number32_again n rest fits stops = number_again 0 4294967295 n rest (omega arith) (omega arith) (omega arith) stops

pub number64_again : (n : ℕ) (rest : List ℕ) → n < 2 ^ 64 → begins_number rest ≡ false → number64 (decimal n ++ rest) ≡ Some (n, rest)
number64_again n rest fits stops = number_again 0 18446744073709551615 n rest fits (omega arith) (omega arith) stops

-- ------ bytes

-- a line feed is no digit
line_feed : (x : ℕ) → hex_byte 10 x ≡ None
unfolding hex_byte hex_digit
line_feed x = refl

pub bytes_again : (bytes rest : List ℕ) → All (λ byte. byte < 256) bytes → bytes_in (hex_text bytes ++ 10 ∷ rest) ≡ (bytes, 10 ∷ rest)
unfolding bytes_in
bytes_again [] [] all = refl
bytes_again [] (x ∷ rest) all = rw (line_feed x, bytes_in) refl
bytes_again (byte ∷ bytes) rest all =
    rw (hex_byte-byte_text byte (All-head (λ b. b < 256) byte bytes all), bytes_in, bytes_again bytes rest (All-tail (λ b. b < 256) byte bytes all)) refl

-- ------ words

pub input_again : (i : Input) (rest : List ℕ) → input_in (input_text i ++ rest) ≡ Some (i, rest)
unfolding input_in input_text
input_again input.Frontend rest = refl
input_again input.Dvr rest = refl

pub output_again : (o : Output) (rest : List ℕ) → output_in (output_text o ++ rest) ≡ Some (o, rest)
unfolding output_in output_text
output_again output.Decoder rest = refl
output_again output.Tap rest = refl
output_again output.TsTap rest = refl
output_again output.TsdemuxTap rest = refl

pub flag_again : (b : Bool) (rest : List ℕ) → flag_in (flag_text b ++ rest) ≡ Some (b, rest)
unfolding flag_in flag_text
flag_again true rest = refl
flag_again false rest = refl

pub pending_again : (p : PollError) (rest : List ℕ) → pending_in (pending_text p ++ rest) ≡ Some (p, rest)
unfolding pending_in pending_text
pending_again pending.Quiet rest = refl
pending_again pending.Overflow rest = refl
pending_again pending.TimedOut rest = refl
