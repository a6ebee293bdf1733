-- Sets of PIDs and filters are read again.
use Rattle.report_read.proofs.Imports.{◌≡◌, ◌<◌, ◌≤◌, ◌^◌, ◌+◌, ◌/◌, ◌%◌, refl, ap, ◌∙◌, ℕ, zero, suc, List, [], ◌∷◌, ◌++◌, true, false, length, map, fold, get_or, Some, None, codes, arith, append_assoc, append-nil, length-append, and-false, nat_tests, length-map, All-from_get_or, All-head, All-tail, All-map, All-filter, nat_lt, nat_eq, not, All, filter, flat_map, all_ascii_digits, is_ascii_digit, decimal, decimal_nonempty, has_pid, Above, Below, Rising, rising-from, SectionFilter, Place, place_at, with_place, filter_with, numbers_below, hex_byte, digit_text, HasBytes, IsFilter, is_zero, place_text, filter_text, filter_places, filter_words, decimal-digits, hex_byte-byte_text, bytes_behind, at-HasBytes, below_each, filter_text-words, filter_with-filter_places, length-filter_words, next_pid_text, behind, choose, number_in, number16, begins_number, is_full_for, begins_place, IsPidSet, pid_step, more_pids, pids_in, place_in, place_step, more_places, filter_in, byte_in, pids_text}
use Rattle.pid_set.specs.Pids.{with_pid}
use Rattle.report_read.proofs.WordsAgain.{first_digit, number_again, number16_again}

-- ------ the first byte of a number

apart : (d mark : ℕ) (text : List ℕ) → is_ascii_digit d ≡ true → is_ascii_digit mark ≡ false → behind (mark ∷ []) (d ∷ text) ≡ None
apart d mark text is other = grind (arith, nat_tests)

apart_of : (mark : ℕ) (ds rest : List ℕ) → all_ascii_digits ds ≡ true → 0 < length ds → is_ascii_digit mark ≡ false → behind (mark ∷ []) (ds ++ rest) ≡ None
apart_of mark [] rest a some other = absurd (omega arith)
apart_of mark (d ∷ ds) rest a some other =
    let parts = first_digit d (all_ascii_digits ds) a in
    apart d mark (ds ++ rest) parts.0 other

-- a number doesn't begin with a byte that is no digit
pub number_apart : (mark n : ℕ) (rest : List ℕ) → n < 2 ^ 64 → is_ascii_digit mark ≡ false → behind (mark ∷ []) (decimal n ++ rest) ≡ None
number_apart mark n rest fits other = apart_of mark (decimal n) rest (decimal-digits n fits) (decimal_nonempty n fits) other

begins_of : (ds rest : List ℕ) → all_ascii_digits ds ≡ true → 0 < length ds → begins_number (ds ++ rest) ≡ true
begins_of [] rest a some = absurd (omega arith)
begins_of (d ∷ ds) rest a some = let parts = first_digit d (all_ascii_digits ds) a in parts.0

pub number_begins : (n : ℕ) (rest : List ℕ) → n < 2 ^ 64 → begins_number (decimal n ++ rest) ≡ true
number_begins n rest fits = begins_of (decimal n) rest (decimal-digits n fits) (decimal_nonempty n fits)

-- ------ sets

low_all : (pid : ℕ) (ps : List ℕ) → Below pid ps → filter (λ p. nat_lt p pid) ps ≡ ps
low_all pid [] b = refl
low_all pid (p ∷ ps) b =
    let is : nat_lt p pid ≡ true = grind (arith, nat_tests, b.0) in
    rw (is, low_all pid ps b.1) refl

high_none : (pid : ℕ) (ps : List ℕ) → Below pid ps → filter (λ p. nat_lt pid p) ps ≡ []
high_none pid [] b = refl
high_none pid (p ∷ ps) b =
    let is : nat_lt pid p ≡ false = grind (arith, nat_tests, b.0) in
    rw (is, high_none pid ps b.1) refl

with_last : (pid : ℕ) (ps : List ℕ) → Below pid ps → with_pid pid ps ≡ ps ++ pid ∷ []
unfolding with_pid
with_last pid ps b = rw (low_all pid ps b, high_none pid ps b) refl

above_in : (p q : ℕ) (xs ys : List ℕ) → Above p (xs ++ q ∷ ys) → p < q
above_in p q [] ys a = a.0
above_in p q (x ∷ xs) ys a = above_in p q xs ys a.1

below_front : (pid : ℕ) (xs ys : List ℕ) → Rising (xs ++ pid ∷ ys) → Below pid xs
below_front pid [] ys r = tt
below_front pid (x ∷ xs) ys r = (above_in x pid xs ys r.0, below_front pid xs ys r.1)

-- what may stand behind a set
abbrev pub EndsSet : List ℕ → Type 0
EndsSet rest = (begins_number rest ≡ false) × (behind (codes ",") rest ≡ None)

comma : (pids rest : List ℕ) → begins_number rest ≡ false → begins_number (flat_map next_pid_text pids ++ rest) ≡ false
comma [] rest stops = stops
comma (pid ∷ pids) rest stops = refl

not_full : (set : List ℕ) (pid n : ℕ) → length set + (1 + n) ≤ 128 → is_full_for pid set ≡ false
not_full set pid n room =
    let few : nat_eq (length set) 128 ≡ false = grind (arith, nat_tests) in
    rw few (and-false (not (has_pid pid set)))

more_again : (left : ℕ) (set pids rest : List ℕ) → length pids ≤ left → length set + length pids ≤ 128 → Rising (set ++ pids) → All (λ p. p < 65536) pids → EndsSet rest
    → more_pids left set (flat_map next_pid_text pids ++ rest) ≡ Some (set ++ pids, rest)
unfolding more_pids pid_step
more_again zero set [] rest few room up all ends = rw (append-nil set) refl
more_again zero set (pid ∷ pids) rest few room up all ends = absurd (omega arith)
more_again (suc left) set [] rest few room up all ends = rw (append-nil set, ends.1) refl
more_again (suc left) set (pid ∷ pids) rest few room up all ends =
    let long : length (set ++ pid ∷ []) ≡ length set + 1 = length-append set (pid ∷ []) in
    let open_ : is_full_for pid set ≡ false = not_full set pid (length pids) (omega arith) in
    let fits : pid < 65536 = All-head (λ p. p < 65536) pid pids all in
    let one : number16 (decimal pid ++ (flat_map next_pid_text pids ++ rest)) ≡ Some (pid, flat_map next_pid_text pids ++ rest) = number16_again pid (flat_map next_pid_text pids ++ rest) fits (comma pids rest ends.0) in
    let last : with_pid pid set ≡ set ++ pid ∷ [] = with_last pid set (below_front pid set pids up) in
    let same : (set ++ pid ∷ []) ++ pids ≡ set ++ pid ∷ pids = append_assoc set (pid ∷ []) pids in
    let later : more_pids left (set ++ pid ∷ []) (flat_map next_pid_text pids ++ rest) ≡ Some ((set ++ pid ∷ []) ++ pids, rest) =
    more_again left (set ++ pid ∷ []) pids rest (omega arith) (omega arith) (rw same up) (All-tail (λ p. p < 65536) pid pids all) ends in
    rw (append_assoc (decimal pid) (flat_map next_pid_text pids) rest, one, open_, last, later, same) refl

all_small : (pids : List ℕ) → ((i : ℕ) → i < length pids → get_or pids i 0 < 2 ^ 16) → All (λ p. p < 65536) pids
all_small pids each = All-from_get_or (λ p. p < 65536) pids 0 (λ i below. omega (arith, each i below))

pub pids_again : (pids rest : List ℕ) → IsPidSet pids → EndsSet rest → pids_in (pids_text pids ++ rest) ≡ Some (pids, rest)
unfolding pids_in pids_text
pids_again [] rest is ends = refl
pids_again (pid ∷ pids) rest is ends =
    let all : All (λ p. p < 65536) (pid ∷ pids) = all_small (pid ∷ pids) (λ i below. is.0.fits i) in
    let fits : pid < 65536 = All-head (λ p. p < 65536) pid pids all in
    let one : number16 (decimal pid ++ (flat_map next_pid_text pids ++ rest)) ≡ Some (pid, flat_map next_pid_text pids ++ rest) = number16_again pid (flat_map next_pid_text pids ++ rest) fits (comma pids rest ends.0) in
    let dash : behind (45 ∷ []) (decimal pid ++ (flat_map next_pid_text pids ++ rest)) ≡ None = number_apart 45 pid (flat_map next_pid_text pids ++ rest) (omega arith) refl in
    let later : more_pids 127 (pid ∷ []) (flat_map next_pid_text pids ++ rest) ≡ Some (pid ∷ pids, rest) =
    more_again 127 (pid ∷ []) pids rest (omega (arith, is.1)) (omega (arith, is.1)) (rising-from (pid ∷ pids) is.0.ascending) (All-tail (λ p. p < 65536) pid pids all) ends in
    let whole : pids_in (decimal pid ++ (flat_map next_pid_text pids ++ rest)) ≡ Some (pid ∷ pids, rest) = rw (dash, choose, one, later) refl in
    rw (append_assoc (decimal pid) (flat_map next_pid_text pids) rest) whole

-- ------ filters

pub place_again : (p : Place) (rest : List ℕ) → p.number ≤ 15 → HasBytes p → place_in (place_text p ++ rest) ≡ Some (p, rest)
unfolding place_in byte_in
place_again p rest low bytes =
    let n : number_in 0 15 (decimal p.number ++ (bytes_behind p ++ rest)) ≡ Some (p.number, bytes_behind p ++ rest) = number_again 0 15 p.number (bytes_behind p ++ rest) (omega arith) (omega arith) low refl in
    let f : hex_byte (digit_text (p.filter / 16)) (digit_text (p.filter % 16)) ≡ Some p.filter = hex_byte-byte_text p.filter bytes.0 in
    let m : hex_byte (digit_text (p.mask / 16)) (digit_text (p.mask % 16)) ≡ Some p.mask = hex_byte-byte_text p.mask bytes.1 in
    let d : hex_byte (digit_text (p.mode / 16)) (digit_text (p.mode % 16)) ≡ Some p.mode = hex_byte-byte_text p.mode bytes.2 in
    rw (append_assoc (decimal p.number) (bytes_behind p) rest, n, f, m, d) refl

-- a place with its number and bytes in their ranges
abbrev pub IsPlace : Place → Type 0
IsPlace p = (p.number ≤ 15) × HasBytes p

places_again : (left : ℕ) (g : SectionFilter) (ps : List Place) (rest : List ℕ) → length ps ≤ left → All IsPlace ps → begins_place rest ≡ false
    → more_places left g (flat_map (λ word. codes " " ++ word) (map place_text ps) ++ rest) ≡ Some (fold with_place g ps, rest)
unfolding more_places place_step
places_again zero g [] rest few all ends = refl
places_again zero g (p ∷ ps) rest few all ends = absurd (omega arith)
places_again (suc left) g [] rest few all ends = rw ends refl
places_again (suc left) g (p ∷ ps) rest few all ends =
    let is : IsPlace p = All-head IsPlace p ps all in
    let more : List ℕ = flat_map (λ word. codes " " ++ word) (map place_text ps) ++ rest in
    let one : place_in (place_text p ++ (flat_map (λ word. codes " " ++ word) (map place_text ps) ++ rest)) ≡ Some (p, flat_map (λ word. codes " " ++ word) (map place_text ps) ++ rest) =
    place_again p (flat_map (λ word. codes " " ++ word) (map place_text ps) ++ rest) is.0 is.1 in
    let begins : begins_number (decimal p.number ++ (bytes_behind p ++ (flat_map (λ word. codes " " ++ word) (map place_text ps) ++ rest))) ≡ true = number_begins p.number (bytes_behind p ++ (flat_map (λ word. codes " " ++ word) (map place_text ps) ++ rest)) (omega arith) in
    let later = places_again left (with_place g p) ps rest (omega arith) (All-tail IsPlace p ps all) ends in
    let same : (place_text p ++ flat_map (λ word. codes " " ++ word) (map place_text ps)) ++ rest ≡ place_text p ++ (flat_map (λ word. codes " " ++ word) (map place_text ps) ++ rest) = append_assoc (place_text p) (flat_map (λ word. codes " " ++ word) (map place_text ps)) rest in
    let front : begins_number (place_text p ++ (flat_map (λ word. codes " " ++ word) (map place_text ps) ++ rest)) ≡ true = rw (append_assoc (decimal p.number) (bytes_behind p) (flat_map (λ word. codes " " ++ word) (map place_text ps) ++ rest)) begins in
    rw (same, front, one) later

places_are : (f : SectionFilter) → IsFilter f → All IsPlace (filter_places f)
places_are f is =
    All-filter (λ p. not (is_zero p)) IsPlace (map (place_at f) (numbers_below 16))
    (All-map IsPlace (place_at f) (numbers_below 16) (below_each (λ i. IsPlace (place_at f i)) 16 (λ i few. (omega arith, at-HasBytes f i is few))))

pub filter_again : (f : SectionFilter) (rest : List ℕ) → IsFilter f → begins_place rest ≡ false → filter_in (filter_text f ++ rest) ≡ Some (f, rest)
unfolding filter_in
filter_again f rest is ends =
    let few : length (filter_places f) ≤ 16 = omega (arith, length-filter_words f, length-map (filter_places f) place_text) in
    let all = places_again 16 (filter_with []) (filter_places f) rest few (places_are f is) ends in
    let same : Some (filter_with (filter_places f), rest) ≡ Some (f, rest) = ap (λ (g : SectionFilter). Some (g, rest)) (filter_with-filter_places f is) in
    rw (filter_text-words f) (all ∙ same)

-- a filter's text begins with no digit
words_end : (words : List (List ℕ)) (rest : List ℕ) → begins_number rest ≡ false → begins_number (flat_map (λ word. codes " " ++ word) words ++ rest) ≡ false
words_end [] rest stops = stops
words_end (word ∷ words) rest stops = refl

pub filter_ends : (f : SectionFilter) (rest : List ℕ) → begins_number rest ≡ false → begins_number (filter_text f ++ rest) ≡ false
filter_ends f rest stops = rw (filter_text-words f) (words_end (filter_words f) rest stops)
