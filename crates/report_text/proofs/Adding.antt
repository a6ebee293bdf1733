-- The sums over nodes.
use Rattle.report_text.proofs.Imports.{ℕ, suc, ◌+◌, ◌≤◌, ◌≡◌, ◌∙◌, refl, sym, ap, ap₂, Bool, true, false, List, [], ◌∷◌, length, map, take, drop, Some, slice_get, sum_by, arith, nat_lt, if◌then◌else◌, take-add, length-append, length-drop, length-map, sum_by-append, sum_by-cons, sum_by-take-drop, Fed, ToldEntry, told_entry, Act, EndAct, LogEntry, Response, Passed, pass_act, feeder_acts, feeder_entry, feeder_entries, before_entry, woven_from, woven, woven-length, sums_text}
use Rattle.report_text.proofs.Wholes.{drop-more}

-- ------ the feeder's calls add nothing

module _ (g : Response → ℕ) (none : g Passed ≡ 0) where
  sum-feeder : (node p s : ℕ) (acts : List Act) → sum_by (λ (e : LogEntry). g e.response) (feeder_entries node p s acts) ≡ 0
  sum-feeder node p s [] = refl
  sum-feeder node p s (a ∷ acts) =
      sum_by-cons (λ (e : LogEntry). g e.response) (feeder_entry node p s a) (feeder_entries node (suc p) (suc s) acts) ∙ ap₂ (λ x y. x + y) none (sum-feeder node (suc p) (suc s) acts)

  module _ (node : ℕ) (e : LogEntry) (later : (place step : ℕ) → List Act → List LogEntry) (n : ℕ) (sums : (p s : ℕ) (acts : List Act) → sum_by (λ (e : LogEntry). g e.response) (later p s acts) ≡ n) where
    sum-first : (l : List LogEntry) → sum_by (λ (e : LogEntry). g e.response) l ≡ n → sum_by (λ (e : LogEntry). g e.response) (e ∷ l) ≡ g e.response + n
    sum-first l is = sum_by-cons (λ (e : LogEntry). g e.response) e l ∙ ap (λ m. g e.response + m) is

    sum-before : (p s : ℕ) (acts : List Act) → sum_by (λ (e : LogEntry). g e.response) (before_entry node e later p s acts) ≡ g e.response + n
    sum-before p s [] = sum-first (later (suc p) s []) (sums (suc p) s [])
    sum-before p s (a ∷ acts) = by_test (nat_lt p e.place) (sum-before (suc p) (suc s) acts) where
      by_test : (b : Bool) → sum_by (λ (e : LogEntry). g e.response) (before_entry node e later (suc p) (suc s) acts) ≡ g e.response + n
          → sum_by (λ (e : LogEntry). g e.response) (if b then feeder_entry node p s a ∷ before_entry node e later (suc p) (suc s) acts else e ∷ later (suc p) s (a ∷ acts)) ≡ g e.response + n
      by_test true ih =
          sum_by-cons (λ (e : LogEntry). g e.response) (feeder_entry node p s a) (before_entry node e later (suc p) (suc s) acts)
          ∙ ap₂ (λ x y. x + y) none ih ∙ (let z : 0 + (g e.response + n) ≡ g e.response + n = omega arith in z)
      by_test false ih = sum-first (later (suc p) s (a ∷ acts)) (sums (suc p) s (a ∷ acts))

  sum-woven_from : (node : ℕ) (calls : List LogEntry) (p s : ℕ) (acts : List Act) → sum_by (λ (e : LogEntry). g e.response) (woven_from node calls p s acts) ≡ sum_by (λ (e : LogEntry). g e.response) calls
  sum-woven_from node [] p s acts = sum-feeder node p s acts
  sum-woven_from node (e ∷ calls) p s acts =
      sum-before node e (woven_from node calls) (sum_by (λ (e : LogEntry). g e.response) calls) (sum-woven_from node calls) p s acts
      ∙ sym (sum_by-cons (λ (e : LogEntry). g e.response) e calls)

  pub sum-woven : (node : ℕ) (acts : List Act) (calls : List LogEntry) → sum_by (λ (e : LogEntry). g e.response) (woven node acts calls) ≡ sum_by (λ (e : LogEntry). g e.response) calls
  sum-woven node acts calls = sum-woven_from node calls 0 0 acts

pub entries-woven : (node : ℕ) (feeding : List Fed) (calls : List ToldEntry) → length feeding + 1 + length calls ≡ length (woven node (feeder_acts feeding) (map told_entry calls))
entries-woven node feeding calls =
    let w = woven-length node (feeder_acts feeding) (map told_entry calls) in
    let a = length-append (map pass_act feeding) (EndAct ∷ []) in
    let m = length-map feeding pass_act in
    let n = length-map calls told_entry in omega (arith, w, a, m, n)

-- ------ one node, and one node more

pub just-one : {A : Type 0} (xs : List A) (i : ℕ) (x : A) → slice_get xs i ≡ Some x → take 1 (drop i xs) ≡ x ∷ []
just-one xs i x at = ap (take 1) (drop-more xs i x at)

pub sum-one : {A : Type 0} (f : A → ℕ) (x : A) → sum_by f (x ∷ []) ≡ f x
sum-one f x = sum_by-cons f x [] ∙ (let z : f x + 0 ≡ f x = omega arith in z)

pub sum-more : {A : Type 0} (f : A → ℕ) (xs : List A) (i : ℕ) → sum_by f (take (i + 1) xs) ≡ sum_by f (take i xs) + sum_by f (take 1 (drop i xs))
sum-more f xs i = ap (sum_by f) (take-add i 1 xs) ∙ sum_by-append f (take i xs) (take 1 (drop i xs))

-- ------ all nodes

one-is-all : {A : Type 0} (xs : List A) → length xs ≤ 1 → take 1 xs ≡ xs
one-is-all [] few = refl
one-is-all (x ∷ []) few = refl
one-is-all (x ∷ y ∷ xs) few = absurd (omega (arith, few))

-- behind 32 of 33
pub last-is-rest : {A : Type 0} (xs : List A) → length xs ≡ 33 → take 1 (drop 32 xs) ≡ drop 32 xs
last-is-rest xs many = one-is-all (drop 32 xs) (let l = length-drop 32 xs in omega (arith, l, many))

pub sum-whole : {A : Type 0} (f : A → ℕ) (xs : List A) → length xs ≡ 33 → sum_by f (take 32 xs) + sum_by f (take 1 (drop 32 xs)) ≡ sum_by f xs
sum-whole f xs many = ap (λ l. sum_by f (take 32 xs) + sum_by f l) (last-is-rest xs many) ∙ sum_by-take-drop f xs 32

pub same-sums : (packets : ℕ) {a b c d a' b' c' d' : ℕ} → a ≡ a' → b ≡ b' → c ≡ c' → d ≡ d' → sums_text packets a b c d ≡ sums_text packets a' b' c' d'
same-sums packets {a} {b} {c} {d} {a'} {b'} {c'} {d'} e f g h =
    ap (λ x. sums_text packets x b c d) e ∙ ap (λ x. sums_text packets a' x c d) f ∙ ap (λ x. sums_text packets a' b' x d) g ∙ ap (λ x. sums_text packets a' b' c' x) h
