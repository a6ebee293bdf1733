-- Tests over the bytes of a filter, one byte more at a time.
use Rattle.filter_match.proofs.Imports.{rules, ◌≡◌, ◌≢◌, ℕ, zero, suc, ◌+◌, ◌-◌, ◌<◌, ◌≤◌, Bool, true, false, not, ◌&&◌, ◌||◌, nat_eq, nat_le, nat_lt, List, [], ◌∷◌, length, slice_index, bit_and, bit_xor, refl, sym, ap, ◌∙◌, inl, inr, arith, list_all, list_any, and-true, and-false, or-true, or-false, list_all-append, list_any-append, cases_lt, nat_tests, SectionFilter, place_of, IsCompiled, numbers_below, reaches_at, differences, equals_at, differs_at, negates_at, matches}

pub all-more : (p : ℕ → Bool) (n : ℕ) → list_all p (numbers_below (n + 1)) ≡ (list_all p (numbers_below n) && p n)
unfolding numbers_below
all-more p n =
    let e : n + 1 ≡ suc n = omega arith in
    rw e (list_all-append p (numbers_below n) (n ∷ []) ∙ ap (λ b. list_all p (numbers_below n) && b) (and-true (p n)))

pub any-more : (p : ℕ → Bool) (n : ℕ) → list_any p (numbers_below (n + 1)) ≡ (list_any p (numbers_below n) || p n)
unfolding numbers_below
any-more p n =
    let e : n + 1 ≡ suc n = omega arith in
    rw e (list_any-append p (numbers_below n) (n ∷ []) ∙ ap (λ b. list_any p (numbers_below n) || b) (or-false (p n)))

pub all-next : (p : ℕ → Bool) (n : ℕ) → list_all p (numbers_below n) ≡ true → p n ≡ true → list_all p (numbers_below (n + 1)) ≡ true
all-next p n h k = all-more p n ∙ rw (h, k) refl

pub any-yes : (p : ℕ → Bool) (n : ℕ) → p n ≡ true → list_any p (numbers_below (n + 1)) ≡ true
any-yes p n k = any-more p n ∙ rw k (or-true (list_any p (numbers_below n)))

pub any-no : (p : ℕ → Bool) (n : ℕ) (b : Bool) → list_any p (numbers_below n) ≡ b → p n ≡ false → list_any p (numbers_below (n + 1)) ≡ b
any-no p n b h k = any-more p n ∙ rw (h, k) (or-false b)

-- one that fails is enough
pub all-stops : (p : ℕ → Bool) (i n : ℕ) → i < n → p i ≡ false → list_all p (numbers_below n) ≡ false
all-stops p i zero l h = absurd (omega arith)
all-stops p i (suc n) l h =
    let e : suc n ≡ n + 1 = omega arith in
    rw e (all-more p n ∙ elim (cases_lt i n) [
      | inl k ↦ rw (all-stops p i n k h) refl
      | inr k ↦ let same : n ≡ i = omega arith in rw (same, h) (and-false (list_all p (numbers_below i)))
    ])

-- ---- the tests of one byte

pub negates-yes : (f : SectionFilter) (i : ℕ) → bit_and (slice_index f.mask i) (slice_index f.mode i) ≢ 0 → negates_at f i ≡ true
unfolding negates_at
negates-yes f i h = let e : nat_eq (bit_and (slice_index f.mask i) (slice_index f.mode i)) 0 ≡ false = grind (arith, nat_tests) in rw e refl

pub negates-no : (f : SectionFilter) (i : ℕ) → bit_and (slice_index f.mask i) (slice_index f.mode i) ≡ 0 → negates_at f i ≡ false
unfolding negates_at
negates-no f i h = rw h refl

pub differences-is : (f : SectionFilter) (s : List ℕ) (i byte : ℕ) → byte ≡ slice_index s (place_of i)
    → bit_and (bit_xor (slice_index f.filter i) byte) (slice_index f.mask i) ≡ differences f s i
unfolding differences
differences-is f s i byte h = ap (λ b. bit_and (bit_xor (slice_index f.filter i) b) (slice_index f.mask i)) h

module _ (f : SectionFilter) (s : List ℕ) (i x : ℕ) (is : x ≡ differences f s i) where
  pub equals-is : nat_eq (bit_and x (255 - slice_index f.mode i)) 0 ≡ equals_at f s i
  unfolding equals_at
  equals-is = ap (λ n. nat_eq (bit_and n (255 - slice_index f.mode i)) 0) is

  pub differs-is : not (nat_eq (bit_and x (slice_index f.mode i)) 0) ≡ differs_at f s i
  unfolding differs_at
  differs-is = ap (λ n. not (nat_eq (bit_and n (slice_index f.mode i)) 0)) is

-- ---- what a compiled filter keeps

abbrev pub ReachesBelow : SectionFilter → ℕ → ℕ → Type 0
ReachesBelow f i needed = (s : List ℕ) → list_all (reaches_at f s) (numbers_below i) ≡ nat_le needed (length s)

pub reach-unmasked : (f : SectionFilter) (i needed : ℕ) → ReachesBelow f i needed → slice_index f.mask i ≡ 0 → ReachesBelow f (i + 1) needed
unfolding reaches_at
reach-unmasked f i needed h z s =
    let e : nat_eq (slice_index f.mask i) 0 ≡ true = grind (arith, nat_tests) in
    all-more (reaches_at f s) i ∙ rw (e, h s) (and-true (nat_le needed (length s)))

both-reach : (a b n : ℕ) → a ≤ b + 1 → (nat_le a n && nat_lt b n) ≡ nat_le (b + 1) n
both-reach a b n h =
    elim (cases_lt b n) [
      | inl l ↦ let e : nat_lt b n ≡ true = grind (arith, nat_tests) in let k : nat_le a n ≡ true = grind (arith, nat_tests) in let m : nat_le (b + 1) n ≡ true = grind (arith, nat_tests) in rw (e, k, m) refl
      | inr l ↦ let e : nat_lt b n ≡ false = grind (arith, nat_tests) in let m : nat_le (b + 1) n ≡ false = grind (arith, nat_tests) in rw (e, m) (and-false (nat_le a n))
    ]

pub reach-masked : (f : SectionFilter) (i needed : ℕ) → ReachesBelow f i needed → needed ≤ place_of i + 1 → slice_index f.mask i ≢ 0 → ReachesBelow f (i + 1) (place_of i + 1)
unfolding reaches_at
reach-masked f i needed h l z s =
    let e : nat_eq (slice_index f.mask i) 0 ≡ false = grind (arith, nat_tests) in
    all-more (reaches_at f s) i ∙ rw (e, h s) (both-reach needed (place_of i) (length s) l)

pub reach-none : (f : SectionFilter) → ReachesBelow f 0 0
unfolding numbers_below
reach-none f s = let e : nat_le 0 (length s) ≡ true = grind (arith, nat_tests) in sym e

pub all-none : (p : ℕ → Bool) → list_all p (numbers_below 0) ≡ true
unfolding numbers_below
all-none p = refl

pub any-none : (p : ℕ → Bool) → list_any p (numbers_below 0) ≡ false
unfolding numbers_below
any-none p = refl

pub place-rises : (i : ℕ) → place_of i ≤ place_of (i + 1)
place-rises zero = search rules
place-rises (suc i) = search rules

-- ---- the whole

pub not-reached : (f : SectionFilter) (s : List ℕ) (needed : ℕ) (negates : Bool) → IsCompiled f needed negates → length s < needed → matches f s ≡ false
unfolding matches
not-reached f s needed negates h l = let e : nat_le needed (length s) ≡ false = grind (arith, nat_tests) in rw (h.reach s, e) refl

pub matches-is : (f : SectionFilter) (s : List ℕ) (needed : ℕ) (negates equals differs : Bool) → IsCompiled f needed negates → needed ≤ length s
    → equals ≡ list_all (equals_at f s) (numbers_below 16) → differs ≡ list_any (differs_at f s) (numbers_below 16) → matches f s ≡ (equals && (not negates || differs))
unfolding matches
matches-is f s needed negates equals differs h l e d =
    let k : nat_le needed (length s) ≡ true = grind (arith, nat_tests) in rw (h.reach s, k, h.negated, e, d) refl

pub place-more : (i : ℕ) → place_of (suc i) ≡ suc i + 2
place-more i = let e : nat_eq (suc i) 0 ≡ false = grind (arith, nat_tests) in rw e refl
