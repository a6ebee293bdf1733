-- A filter that is written is read again.
use Rattle.text_forms.proofs.Imports.{◌≡◌, ◌<◌, ◌≤◌, ◌+◌, refl, ap, ◌∙◌, ℕ, zero, suc, List, [], ◌∷◌, ◌++◌, Bool, true, false, length, take, map, fold, replicate, get_or, Some, codes, arith, append_assoc, append-nil, set, set-append_seam, nat_tests, length-map, take_all, take_more, length-take-le, All-get_or, All-nil, All-push, All-map, All-filter, length-filter_both, not, All, filter, flat_map, SectionFilter, Place, place_at, filter_with, HasBytes, is_zero, place_text, place_named, filter_place_text, filter_text, filter_places, filter_words, IsFilter, with_place, places_named}
use Rattle.filter_match.specs.Match.{numbers_below}
use Rattle.text_forms.proofs.PlacesRead.{place_named-place_text}

-- so many numbers from i on
upto : (left i : ℕ) → List ℕ
upto zero i = []
upto (suc left) i = i ∷ upto left (i + 1)

below-upto : numbers_below 16 ≡ upto 16 0
unfolding numbers_below upto
below-upto = refl

sixteen : length (upto 16 0) ≡ 16
unfolding upto
sixteen = refl

-- the places that aren't 0, of so many from i on
abbrev kept : SectionFilter → List ℕ → List Place
kept f numbers = filter (λ p. not (is_zero p)) (map (place_at f) numbers)

-- each place of a filter is of bytes
pub at-HasBytes : (f : SectionFilter) (i : ℕ) → IsFilter f → i < 16 → HasBytes (place_at f i)
at-HasBytes f i is small =
    let a : i < length f.filter = rw is.0.0 small in
    let b : i < length f.mask = rw is.1.0 small in
    let c : i < length f.mode = rw is.2.0 small in
    (All-get_or (λ byte. byte < 256) f.filter i 0 a is.0.1, All-get_or (λ byte. byte < 256) f.mask i 0 b is.1.1, All-get_or (λ byte. byte < 256) f.mode i 0 c is.2.1)

-- ------ the places are read

read_on : (f : SectionFilter) (left i least : ℕ) → IsFilter f → i < 16 → least ≤ i
    → ((least : ℕ) → least ≤ i + 1 → places_named least (map place_text (kept f (upto left (i + 1)))) ≡ Some (kept f (upto left (i + 1))))
    → (b : Bool) → is_zero (place_at f i) ≡ b → places_named least (map place_text (kept f (i ∷ upto left (i + 1)))) ≡ Some (kept f (i ∷ upto left (i + 1)))
unfolding places_named
read_on f left i least is small low later true e = rw e (later least (omega arith))
read_on f left i least is small low later false e =
    let this : place_named least (place_text (place_at f i)) ≡ Some (place_at f i) = place_named-place_text least (place_at f i) low (omega arith) (at-HasBytes f i is small) in
    rw (e, this, later (i + 1) (omega arith)) refl

read_from : (f : SectionFilter) (left i least : ℕ) → IsFilter f → i + left ≡ 16 → least ≤ i → places_named least (map place_text (kept f (upto left i))) ≡ Some (kept f (upto left i))
unfolding upto places_named
read_from f zero i least is all low = refl
read_from f (suc left) i least is all low = read_on f left i least is (omega arith) low (λ least' low'. read_from f left (i + 1) least' is (omega arith) low') (is_zero (place_at f i)) refl

-- ------ and put into a filter

set_next : (xs : List ℕ) (i left : ℕ) → i < length xs → set (take i xs ++ 0 ∷ replicate left 0) i (get_or xs i 0) ≡ take (i + 1) xs ++ replicate left 0
set_next xs i left small =
    let long : length (take i xs) ≡ i = length-take-le i xs (omega arith) in
    let seam : set (take i xs ++ 0 ∷ replicate left 0) (length (take i xs)) (get_or xs i 0) ≡ take i xs ++ get_or xs i 0 ∷ replicate left 0 = set-append_seam (take i xs) 0 (replicate left 0) (get_or xs i 0) in
    let there : set (take i xs ++ 0 ∷ replicate left 0) i (get_or xs i 0) ≡ take i xs ++ get_or xs i 0 ∷ replicate left 0 = rw long at seam in
    there ∙ rw (take_more xs i 0 small, append_assoc) refl

zero_next : (xs : List ℕ) (i left : ℕ) → i < length xs → get_or xs i 0 ≡ 0 → take i xs ++ 0 ∷ replicate left 0 ≡ take (i + 1) xs ++ replicate left 0
zero_next xs i left small none = rw (take_more xs i 0 small, append_assoc, none) refl

-- the first i places of a filter, and zeros for so many more
abbrev begun : SectionFilter → (left i : ℕ) → SectionFilter
begun f left i = record {
  filter = take i f.filter ++ replicate left 0;
  mask = take i f.mask ++ replicate left 0;
  mode = take i f.mode ++ replicate left 0;
}

set_on : (f : SectionFilter) (left i : ℕ) → IsFilter f → i < 16 → with_place (begun f (suc left) i) (place_at f i) ≡ begun f left (i + 1)
unfolding with_place
set_on f left i is small =
    let a = set_next f.filter i left (rw is.0.0 small) in
    let b = set_next f.mask i left (rw is.1.0 small) in
    let c = set_next f.mode i left (rw is.2.0 small) in
    rw (a, b, c) refl

pass_on : (f : SectionFilter) (left i : ℕ) → IsFilter f → i < 16 → is_zero (place_at f i) ≡ true → begun f (suc left) i ≡ begun f left (i + 1)
pass_on f left i is small e =
    let none : (get_or f.filter i 0 ≡ 0) × (get_or f.mask i 0 ≡ 0) × (get_or f.mode i 0 ≡ 0) = (grind (arith, nat_tests), grind (arith, nat_tests), grind (arith, nat_tests)) in
    let a = zero_next f.filter i left (rw is.0.0 small) none.0 in
    let b = zero_next f.mask i left (rw is.1.0 small) none.1 in
    let c = zero_next f.mode i left (rw is.2.0 small) none.2 in
    rw (a, b, c) refl

fold_on : (f : SectionFilter) (left i : ℕ) → IsFilter f → i < 16
    → fold with_place (begun f left (i + 1)) (kept f (upto left (i + 1))) ≡ f
    → (b : Bool) → is_zero (place_at f i) ≡ b → fold with_place (begun f (suc left) i) (kept f (i ∷ upto left (i + 1))) ≡ f
fold_on f left i is small later true e = rw (e, pass_on f left i is small e) later
fold_on f left i is small later false e = rw e (ap (λ (g : SectionFilter). fold with_place g (kept f (upto left (i + 1)))) (set_on f left i is small) ∙ later)

fold_from : (f : SectionFilter) (left i : ℕ) → IsFilter f → i + left ≡ 16 → fold with_place (begun f left i) (kept f (upto left i)) ≡ f
unfolding upto
fold_from f zero i is all =
    let a : take i f.filter ≡ f.filter = take_all i f.filter (omega (arith, is.0.0)) in
    let b : take i f.mask ≡ f.mask = take_all i f.mask (omega (arith, is.1.0)) in
    let c : take i f.mode ≡ f.mode = take_all i f.mode (omega (arith, is.2.0)) in
    rw (a, b, c, append-nil f.filter, append-nil f.mask, append-nil f.mode) refl
fold_from f (suc left) i is all = fold_on f left i is (omega arith) (fold_from f left (i + 1) is (omega arith)) (is_zero (place_at f i)) refl

pub places_named-filter_words : (f : SectionFilter) → IsFilter f → places_named 0 (filter_words f) ≡ Some (filter_places f)
places_named-filter_words f is = rw below-upto (read_from f 16 0 0 is refl (omega arith))

pub filter_with-filter_places : (f : SectionFilter) → IsFilter f → filter_with (filter_places f) ≡ f
filter_with-filter_places f is = rw below-upto (fold_from f 16 0 is refl)

-- ------ the text is its words

words_on : (f : SectionFilter) (i : ℕ) (later : List ℕ)
    → flat_map (filter_place_text f) later ≡ flat_map (λ word. codes " " ++ word) (map place_text (kept f later))
    → (b : Bool) → is_zero (place_at f i) ≡ b → flat_map (filter_place_text f) (i ∷ later) ≡ flat_map (λ word. codes " " ++ word) (map place_text (kept f (i ∷ later)))
words_on f i later same true e = rw e same
words_on f i later same false e = rw (e, same) refl

words_of : (f : SectionFilter) (numbers : List ℕ) → flat_map (filter_place_text f) numbers ≡ flat_map (λ word. codes " " ++ word) (map place_text (kept f numbers))
words_of f [] = refl
words_of f (i ∷ later) = words_on f i later (words_of f later) (is_zero (place_at f i)) refl

pub filter_text-words : (f : SectionFilter) → filter_text f ≡ flat_map (λ word. codes " " ++ word) (filter_words f)
filter_text-words f = words_of f (numbers_below 16)

-- ------ the words of a filter

-- what holds of each number below n holds of each of these numbers
pub below_each : (P : ℕ → Type 0) (n : ℕ) → ((i : ℕ) → i < n → P i) → All P (numbers_below n)
unfolding numbers_below
below_each P zero each = All-nil P
below_each P (suc n) each = All-push P (numbers_below n) n (below_each P n (λ i small. each i (omega arith))) (each n (omega arith))

-- what holds of each place's text holds of each word of a filter
pub filter_words-each : (P : List ℕ → Type 0) (f : SectionFilter) → ((i : ℕ) → i < 16 → P (place_text (place_at f i))) → All P (filter_words f)
filter_words-each P f each =
    All-map P place_text (filter_places f)
    (All-filter (λ p. not (is_zero p)) (λ p. P (place_text p)) (map (place_at f) (numbers_below 16))
    (All-map (λ p. P (place_text p)) (place_at f) (numbers_below 16) (below_each (λ i. P (place_text (place_at f i))) 16 each)))

-- a filter has no more words than places
pub length-filter_words : (f : SectionFilter) → length (filter_words f) ≤ 16
length-filter_words f =
    let all : length (map (place_at f) (numbers_below 16)) ≡ length (numbers_below 16) = length-map (numbers_below 16) (place_at f) in
    let words : length (filter_words f) ≡ length (filter_places f) = length-map (filter_places f) place_text in
    let split : length (filter (λ p. not (is_zero p)) (map (place_at f) (numbers_below 16))) + length (filter (λ p. not (not (is_zero p))) (map (place_at f) (numbers_below 16))) ≡ length (map (place_at f) (numbers_below 16)) = length-filter_both (λ (p : Place). not (is_zero p)) (λ p. not (not (is_zero p))) (λ p. refl) (map (place_at f) (numbers_below 16)) in
    let numbers : length (numbers_below 16) ≡ 16 = ap length below-upto ∙ sixteen in
    omega arith
