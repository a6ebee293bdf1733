-- Lists that are written one after another are read again.
use Rattle.report_read.proofs.Imports.{◌≡◌, ◌<◌, ◌≤◌, ◌-◌, refl, ap, ◌∙◌, ℕ, zero, suc, List, [], ◌∷◌, ◌++◌, Bool, true, false, length, Some, None, arith, append_assoc, append-nil, length-append, All-head, All-tail, All-nil, All-push, All, flat_map, Reading, onto, many}

-- how the text of a value is read: it is read again whatever stands behind it that may end it, it begins as such a text does,
-- it may end another, and it has a byte
pub record IsSpelled {A : Type 0} (begins : List ℕ → Bool) (one : List ℕ → Reading A) (text : A → List ℕ) (ok : A → Type 0) (ends : List ℕ → Type 0) : Type 0 where
  pub again : (x : A) (rest : List ℕ) → ok x → ends rest → one (text x ++ rest) ≡ Some (x, rest)
  pub begun : (x : A) (rest : List ℕ) → ok x → begins (text x ++ rest) ≡ true
  pub ended : (x : A) (rest : List ℕ) → ok x → ends (text x ++ rest)
  pub some : (x : A) → ok x → 0 < length (text x)

-- nothing is asked of what stands behind a text
abbrev pub Whatever : List ℕ → Type 0
Whatever rest = Unit {0}

ends_on : {A : Type 0} (begins : List ℕ → Bool) (one : List ℕ → Reading A) (text : A → List ℕ) (ok : A → Type 0) (ends : List ℕ → Type 0) (xs : List A) (rest : List ℕ)
    → IsSpelled begins one text ok ends → All ok xs → ends rest → ends (flat_map text xs ++ rest)
ends_on begins one text ok ends [] rest is all last = last
ends_on begins one text ok ends (x ∷ xs) rest is all last = rw (append_assoc (text x) (flat_map text xs) rest) (is.ended x (flat_map text xs ++ rest) (All-head ok x xs all))

pub many_again : {A : Type 0} (begins : List ℕ → Bool) (one : List ℕ → Reading A) (text : A → List ℕ) (ok : A → Type 0) (ends : List ℕ → Type 0) (left : ℕ) (xs : List A) (rest : List ℕ)
    → IsSpelled begins one text ok ends → All ok xs → begins rest ≡ false → ends rest → length xs ≤ left → many begins one left (flat_map text xs ++ rest) ≡ Some (xs, rest)
unfolding many
many_again begins one text ok ends zero [] rest is all stops last few = refl
many_again begins one text ok ends zero (x ∷ xs) rest is all stops last few = absurd (omega arith)
many_again begins one text ok ends (suc left) [] rest is all stops last few = rw stops refl
many_again begins one text ok ends (suc left) (x ∷ xs) rest is all stops last few =
    let fine : ok x = All-head ok x xs all in
    let next : ends (flat_map text xs ++ rest) = ends_on begins one text ok ends xs rest is (All-tail ok x xs all) last in
    let first : one (text x ++ (flat_map text xs ++ rest)) ≡ Some (x, flat_map text xs ++ rest) = is.again x (flat_map text xs ++ rest) fine next in
    let begun : begins (text x ++ (flat_map text xs ++ rest)) ≡ true = is.begun x (flat_map text xs ++ rest) fine in
    let later : many begins one left (flat_map text xs ++ rest) ≡ Some (xs, rest) = many_again begins one text ok ends left xs rest is (All-tail ok x xs all) stops last (omega arith) in
    rw (append_assoc (text x) (flat_map text xs) rest, begun, first, later) refl

-- there are no more values than bytes
pub no_more : {A : Type 0} (text : A → List ℕ) (ok : A → Type 0) (xs : List A) → ((x : A) → ok x → 0 < length (text x)) → All ok xs → length xs ≤ length (flat_map text xs)
no_more text ok [] some all = omega arith
no_more text ok (x ∷ xs) some all =
    let later : length xs ≤ length (flat_map text xs) = no_more text ok xs some (All-tail ok x xs all) in
    let here : 0 < length (text x) = some x (All-head ok x xs all) in
    omega (arith, length-append (text x) (flat_map text xs))

-- so all are read where as many may be read as bytes are there
pub all_again : {A : Type 0} (begins : List ℕ → Bool) (one : List ℕ → Reading A) (text : A → List ℕ) (ok : A → Type 0) (ends : List ℕ → Type 0) (xs : List A) (rest : List ℕ)
    → IsSpelled begins one text ok ends → All ok xs → begins rest ≡ false → ends rest → many begins one (length (flat_map text xs ++ rest)) (flat_map text xs ++ rest) ≡ Some (xs, rest)
all_again begins one text ok ends xs rest is all stops last =
    let few : length xs ≤ length (flat_map text xs) = no_more text ok xs is.some all in
    many_again begins one text ok ends (length (flat_map text xs ++ rest)) xs rest is all stops last (omega (arith, length-append (flat_map text xs) rest))

-- ------ steps of the code

onto_twice : {A : Type 0} (front back : List A) (r : Reading (List A)) → onto front (onto back r) ≡ onto (front ++ back) r
onto_twice front back None = refl
onto_twice front back (Some r) = ap (λ values. Some (values, r.1)) (append_sym front back r.0)
  where
    append_sym : {A : Type 0} (a b c : List A) → a ++ (b ++ c) ≡ (a ++ b) ++ c
    append_sym a b c = rw (append_assoc a b c) refl

pub many_on : {A : Type 0} (begins : List ℕ → Bool) (one : List ℕ → Reading A) (left : ℕ) (bytes rest : List ℕ) (front : List A) (x : A) → 0 < left → begins bytes ≡ true → one bytes ≡ Some (x, rest)
    → onto front (many begins one left bytes) ≡ onto (front ++ x ∷ []) (many begins one (left - 1) rest)
unfolding many
many_on begins one zero bytes rest front x some b e = absurd (omega arith)
many_on begins one (suc left) bytes rest front x some b e =
    let back : left ≡ suc left - 1 = omega arith in
    let here : onto front (many begins one (suc left) bytes) ≡ onto front (onto (x ∷ []) (many begins one left rest)) = rw (b, e) refl in
    here ∙ (onto_twice front (x ∷ []) (many begins one left rest) ∙ ap (λ (n : ℕ). onto (front ++ x ∷ []) (many begins one n rest)) back)

pub many_stop : {A : Type 0} (begins : List ℕ → Bool) (one : List ℕ → Reading A) (left : ℕ) (bytes : List ℕ) (front : List A) → begins bytes ≡ false → onto front (many begins one left bytes) ≡ Some (front, bytes)
unfolding many
many_stop begins one zero bytes front b = rw (append-nil front) refl
many_stop begins one (suc left) bytes front b = rw (b, append-nil front) refl

pub many_none : {A : Type 0} (begins : List ℕ → Bool) (one : List ℕ → Reading A) (left : ℕ) (bytes : List ℕ) (front : List A) → left ≡ 0 → onto front (many begins one left bytes) ≡ Some (front, bytes)
unfolding many
many_none begins one left bytes front e = rw (e, append-nil front) refl

pub many_fail : {A : Type 0} (begins : List ℕ → Bool) (one : List ℕ → Reading A) (left : ℕ) (bytes : List ℕ) (front : List A) → 0 < left → begins bytes ≡ true → one bytes ≡ None → onto front (many begins one left bytes) ≡ None
unfolding many
many_fail begins one zero bytes front some b e = absurd (omega arith)
many_fail begins one (suc left) bytes front some b e = rw (b, e) refl

-- one value more is as all others
pub all_more : {A : Type 0} (P : A → Type 0) (xs : List A) (x : A) → All P xs → P x → All P (xs ++ x ∷ [])
all_more P xs x all is = All-push P xs x all is

pub ruleset many_steps = (many_on, many_stop, many_none, many_fail, all_more, All-nil)
