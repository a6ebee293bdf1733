-- The first piece of a list, and the pieces behind it.
use Rattle.client_script.proofs.Imports.{◌≡◌, ◌<◌, ◌≤◌, ◌+◌, refl, ap, ◌∙◌, ℕ, Bool, true, false, cond, List, [], ◌∷◌, length, take, drop, arith, nat_tests, All-nil, All-cons, slice_split_first, slice_split-cons_no, length-slice_split, nat_lt, ◌==◌, All, slice_split, onto_first, position, position_or_len, count_by, without_last, whole_lines, words_of}
use Rattle.std.proofs.Common.{Some, None}

cut_below : (p : ℕ → Bool) (xs : List ℕ) (i : ℕ) (b : Bool) → nat_lt (position_or_len p xs) (length xs) ≡ b → cond b (Some (position_or_len p xs)) None ≡ Some i
    → slice_split p xs ≡ take i xs ∷ slice_split p (drop (i + 1) xs)
cut_below p xs i true e h =
    let same : position_or_len p xs ≡ i = cc in
    let below : position_or_len p xs < length xs = grind (arith, nat_tests) in
    rw (← same) (slice_split_first p xs 0 below)
cut_below p xs i false e h = absurd (cc)

-- the piece in front of the first place that passes
pub cut-some : (p : ℕ → Bool) (xs : List ℕ) (i : ℕ) → position p xs ≡ Some i → slice_split p xs ≡ take i xs ∷ slice_split p (drop (i + 1) xs)
cut-some p xs i h = cut_below p xs i (nat_lt (position_or_len p xs) (length xs)) refl h

whole_more : (p : ℕ → Bool) (x : ℕ) (xs : List ℕ) → (length xs ≡ position_or_len p xs → slice_split p xs ≡ xs ∷ []) → length (x ∷ xs) ≡ position_or_len p (x ∷ xs)
    → (b : Bool) → p x ≡ b → slice_split p (x ∷ xs) ≡ (x ∷ xs) ∷ []
whole_more p x xs more h true e = absurd (grind arith)
whole_more p x xs more h false e =
    let shorter : length xs ≡ position_or_len p xs = grind arith in
    slice_split-cons_no p x xs e ∙ ap (onto_first x) (more shorter)

whole : (p : ℕ → Bool) (xs : List ℕ) → length xs ≡ position_or_len p xs → slice_split p xs ≡ xs ∷ []
whole p [] h = refl
whole p (x ∷ xs) h = whole_more p x xs (whole p xs) h (p x) refl

within : (p : ℕ → Bool) (xs : List ℕ) → position_or_len p xs ≤ length xs
within p [] = omega arith
within p (x ∷ xs) = grind (arith, within p xs)

cut_nowhere : (p : ℕ → Bool) (xs : List ℕ) (b : Bool) → nat_lt (position_or_len p xs) (length xs) ≡ b → cond b (Some (position_or_len p xs)) None ≡ None → slice_split p xs ≡ xs ∷ []
cut_nowhere p xs true e h = absurd (cc)
cut_nowhere p xs false e h =
    let all : length xs ≤ position_or_len p xs = grind (arith, nat_tests) in
    whole p xs (omega (arith, within p xs))

-- the one piece, where no place passes
pub cut-none : (p : ℕ → Bool) (xs : List ℕ) → position p xs ≡ None → slice_split p xs ≡ xs ∷ []
cut-none p xs h = cut_nowhere p xs (nat_lt (position_or_len p xs) (length xs)) refl h

free_more : (p : ℕ → Bool) (x : ℕ) (xs : List ℕ) → (length xs ≡ position_or_len p xs → All (λ y. p y ≡ false) xs) → length (x ∷ xs) ≡ position_or_len p (x ∷ xs)
    → (b : Bool) → p x ≡ b → All (λ y. p y ≡ false) (x ∷ xs)
free_more p x xs more h true e = absurd (grind arith)
free_more p x xs more h false e =
    let shorter : length xs ≡ position_or_len p xs = grind arith in
    All-cons (λ y. p y ≡ false) x xs e (more shorter)

free : (p : ℕ → Bool) (xs : List ℕ) → length xs ≡ position_or_len p xs → All (λ y. p y ≡ false) xs
free p [] h = All-nil (λ y. p y ≡ false)
free p (x ∷ xs) h = free_more p x xs (free p xs) h (p x) refl

free_nowhere : (p : ℕ → Bool) (xs : List ℕ) (b : Bool) → nat_lt (position_or_len p xs) (length xs) ≡ b → cond b (Some (position_or_len p xs)) None ≡ None → All (λ y. p y ≡ false) xs
free_nowhere p xs true e h = absurd (cc)
free_nowhere p xs false e h =
    let all : length xs ≤ position_or_len p xs = grind (arith, nat_tests) in
    free p xs (omega (arith, within p xs))

-- where no place passes, no element does
pub position-None : (p : ℕ → Bool) (xs : List ℕ) → position p xs ≡ None → All (λ y. p y ≡ false) xs
position-None p xs h = free_nowhere p xs (nat_lt (position_or_len p xs) (length xs)) refl h

-- there is one word more than spaces
pub length-words_of : (line : List ℕ) → length (words_of line) ≡ count_by (λ byte. byte == 32) line + 1
length-words_of line = omega (arith, length-slice_split (λ (byte : ℕ). byte == 32) line)

behind_first : (line : List ℕ) (pieces : List (List ℕ)) → 0 < length pieces → without_last (line ∷ pieces) ≡ line ∷ without_last pieces
behind_first line [] some = absurd (omega arith)
behind_first line (piece ∷ more) some = refl

-- the first whole line, and those behind it
pub first-line : (bytes line behind : List ℕ) → slice_split (λ byte. byte == 10) bytes ≡ line ∷ slice_split (λ byte. byte == 10) behind → whole_lines bytes ≡ line ∷ whole_lines behind
first-line bytes line behind split =
    let some : 0 < length (slice_split (λ byte. byte == 10) behind) = omega (arith, length-slice_split (λ (byte : ℕ). byte == 10) behind) in
    rw split (behind_first line (slice_split (λ byte. byte == 10) behind) some)

length-without_last : (pieces : List (List ℕ)) → 0 < length pieces → length (without_last pieces) + 1 ≡ length pieces
length-without_last [] some = absurd (omega arith)
length-without_last (piece ∷ []) some = refl
length-without_last (piece ∷ next ∷ more) some = omega (arith, length-without_last (next ∷ more) (omega arith))

-- there are as many whole lines as line feeds
pub length-whole_lines : (bytes : List ℕ) → length (whole_lines bytes) ≡ count_by (λ byte. byte == 10) bytes
length-whole_lines bytes =
    let pieces = length-slice_split (λ (byte : ℕ). byte == 10) bytes in
    omega (arith, length-without_last (slice_split (λ byte. byte == 10) bytes) (omega arith))
