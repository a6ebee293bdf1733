-- `matches` says what a filter means bit by bit.
use Rattle.filter_match.proofs.compiled.matches_means.Goals as goal
use Rattle.filter_match.proofs.Imports.{◌≡◌, ◌≢◌, ℕ, zero, suc, ◌+◌, ◌-◌, ◌/◌, ◌%◌, ◌^◌, ◌<◌, min, Bool, true, false, not, ◌||◌, nat_eq, nat_lt, List, length, slice_index, bit_and, bit_xor, refl, sym, ap, ◌∙◌, inl, inr, arith, ◌↔◌, IsTrue, list_all, list_any, cases_eq, cases_lt, and_parts, nat_tests, or-true, or-false, and_le_r, bit_at_and, bit_at_xor, bit_at_not, bit_at-zero, bit_at-trailing_zeros, by_bool, SectionFilter, place_of, numbers_below, bit_of, HasMode, IsMatch, reaches_at, differences, equals_at, differs_at, negates_at, matches, rules}
use Rattle.std.specs.Int.{w8}
use Rattle.filter_match.proofs.Bytes.{all-none, all-next, all-stops, any-none, any-more}

-- ---- tests over the bytes, as facts on each

all-at : (p : ℕ → Bool) (n i : ℕ) → list_all p (numbers_below n) ≡ true → i < n → p i ≡ true
all-at p n i h l = by_bool (p i) (p i ≡ true) (λ e. e) (λ e. let f : list_all p (numbers_below n) ≡ false = all-stops p i n l e in absurd (cc))

all-from : (p : ℕ → Bool) (n : ℕ) → ((i : ℕ) → i < n → p i ≡ true) → list_all p (numbers_below n) ≡ true
all-from p zero h = all-none p
all-from p (suc n) h =
    let e : suc n ≡ n + 1 = omega arith in
    rw e (all-next p n (all-from p n (λ i l. h i (omega arith))) (h n (omega arith)))

any-some : (p : ℕ → Bool) (n : ℕ) → list_any p (numbers_below n) ≡ true → (i : ℕ) × ((i < n) × (p i ≡ true))
any-some p zero h = let e : list_any p (numbers_below 0) ≡ false = any-none p in absurd (cc)
any-some p (suc n) h =
    let e : n + 1 ≡ suc n = omega arith in
    let split : (list_any p (numbers_below n) || p n) ≡ true = sym (any-more p n) ∙ ap (λ k. list_any p (numbers_below k)) e ∙ h in
    by_bool (p n) ((i : ℕ) × ((i < suc n) × (p i ≡ true)))
    (λ y. (n, (omega arith, y)))
    (λ z.
    let earlier : (list_any p (numbers_below n) || false) ≡ true = rw z at split in
    let found = any-some p n (sym (or-false (list_any p (numbers_below n))) ∙ earlier) in
    (found.0, (omega (arith, found.1.0), found.1.1)))

any-from : (p : ℕ → Bool) (n i : ℕ) → i < n → p i ≡ true → list_any p (numbers_below n) ≡ true
any-from p zero i l h = absurd (omega arith)
any-from p (suc n) i l h =
    let e : suc n ≡ n + 1 = omega arith in
    rw e (any-more p n ∙ elim (cases_lt i n) [
      | inl k ↦ rw (any-from p n i k h) refl
      | inr k ↦ let same : n ≡ i = omega arith in rw (same, h) (or-true (list_any p (numbers_below i)))
    ])

-- ---- bytes, as facts on each bit

some-bit : (n : ℕ) → n < 256 → n ≢ 0 → (k : ℕ) × ((k < 8) × (n / 2 ^ k % 2 ≡ 1))
some-bit n l h = let t = bit_at-trailing_zeros w8 n (omega arith) (omega arith) in (_, (t.0, t.1))

no-bits : (n : ℕ) → n < 256 → ((k : ℕ) → k < 8 → n / 2 ^ k % 2 ≡ 0) → n ≡ 0
no-bits n l h = elim (cases_eq n 0) [
  | inl e ↦ e
  | inr d ↦ let t = some-bit n l d in absurd (omega (arith, t.1.1, h t.0 t.1.0))
]

module _ (f : SectionFilter) (s : List ℕ) where
  -- the bits of the differences
  difference-bit : (i k : ℕ) → differences f s i / 2 ^ k % 2 ≡ min ((bit_of f.filter i k + bit_of s (place_of i) k) % 2) (bit_of f.mask i k)
  unfolding differences
  difference-bit i k =
      bit_at_and (bit_xor (slice_index f.filter i) (slice_index s (place_of i))) (slice_index f.mask i) k
      ∙ ap (λ n. min n (bit_of f.mask i k)) (bit_at_xor (slice_index f.filter i) (slice_index s (place_of i)) k)

  with-mode : (i k : ℕ) → bit_and (differences f s i) (slice_index f.mode i) / 2 ^ k % 2
      ≡ min (min ((bit_of f.filter i k + bit_of s (place_of i) k) % 2) (bit_of f.mask i k)) (bit_of f.mode i k)
  with-mode i k = bit_at_and (differences f s i) (slice_index f.mode i) k ∙ ap (λ n. min n (bit_of f.mode i k)) (difference-bit i k)

  without-mode : (i k : ℕ) → slice_index f.mode i < 256 → k < 8 → bit_and (differences f s i) (255 - slice_index f.mode i) / 2 ^ k % 2
      ≡ min (min ((bit_of f.filter i k + bit_of s (place_of i) k) % 2) (bit_of f.mask i k)) (1 - bit_of f.mode i k)
  without-mode i k fits low =
      let n : (255 - slice_index f.mode i) / 2 ^ k % 2 ≡ 1 - bit_of f.mode i k = bit_at_not w8 (slice_index f.mode i) k fits low in
      bit_at_and (differences f s i) (255 - slice_index f.mode i) k
      ∙ ap (λ m. min (differences f s i / 2 ^ k % 2) m) n
      ∙ ap (λ m. min m (1 - bit_of f.mode i k)) (difference-bit i k)

  module _ (fits : (i : ℕ) → slice_index f.mode i < 256) where
    mode-256 : (x i : ℕ) → bit_and x (slice_index f.mode i) < 256
    mode-256 x i = omega (arith, and_le_r x (slice_index f.mode i), fits i)

    rest-256 : (x i : ℕ) → bit_and x (255 - slice_index f.mode i) < 256
    rest-256 x i = omega (arith, and_le_r x (255 - slice_index f.mode i))

    -- a byte has a masked bit with mode 1 just where a bit says so
    negates-from : (i k : ℕ) → HasMode f i k 1 → negates_at f i ≡ true
    unfolding negates_at
    negates-from i k h =
        let b : bit_and (slice_index f.mask i) (slice_index f.mode i) / 2 ^ k % 2 ≡ min (bit_of f.mask i k) (bit_of f.mode i k) = bit_at_and (slice_index f.mask i) (slice_index f.mode i) k in
        let one : bit_and (slice_index f.mask i) (slice_index f.mode i) / 2 ^ k % 2 ≡ 1 = omega (arith, b, h.is_masked, h.has_mode) in
        let d : bit_and (slice_index f.mask i) (slice_index f.mode i) ≢ 0 = λ e. let z : bit_and (slice_index f.mask i) (slice_index f.mode i) / 2 ^ k % 2 ≡ 0 = ap (λ n. n / 2 ^ k % 2) e ∙ bit_at-zero k in omega (arith, z, one) in
        let t : nat_eq (bit_and (slice_index f.mask i) (slice_index f.mode i)) 0 ≡ false = grind (arith, nat_tests) in
        rw t refl

    negates-some : (i : ℕ) → i < 16 → negates_at f i ≡ true → (k : ℕ) × HasMode f i k 1
    unfolding negates_at
    negates-some i l h =
        let d : bit_and (slice_index f.mask i) (slice_index f.mode i) ≢ 0 = grind (arith, nat_tests) in
        let t = some-bit (bit_and (slice_index f.mask i) (slice_index f.mode i)) (mode-256 (slice_index f.mask i) i) d in
        let b : bit_and (slice_index f.mask i) (slice_index f.mode i) / 2 ^ t.0 % 2 ≡ min (bit_of f.mask i t.0) (bit_of f.mode i t.0) = bit_at_and (slice_index f.mask i) (slice_index f.mode i) t.0 in
        let one = t.1.1 in
        (t.0, record { byte = l; bit = t.1.0; is_masked = omega (arith, b, one); has_mode = omega (arith, b, one) })

    differs-from : (i k : ℕ) → HasMode f i k 1 → bit_of f.filter i k ≢ bit_of s (place_of i) k → differs_at f s i ≡ true
    unfolding differs_at
    differs-from i k h other =
        let one : bit_and (differences f s i) (slice_index f.mode i) / 2 ^ k % 2 ≡ 1 = omega (arith, with-mode i k, h.is_masked, h.has_mode, other) in
        let d : bit_and (differences f s i) (slice_index f.mode i) ≢ 0 = λ e. let z : bit_and (differences f s i) (slice_index f.mode i) / 2 ^ k % 2 ≡ 0 = ap (λ n. n / 2 ^ k % 2) e ∙ bit_at-zero k in omega (arith, z, one) in
        let t : nat_eq (bit_and (differences f s i) (slice_index f.mode i)) 0 ≡ false = grind (arith, nat_tests) in
        rw t refl

    differs-some : (i : ℕ) → i < 16 → differs_at f s i ≡ true → (k : ℕ) × (HasMode f i k 1 × (bit_of f.filter i k ≢ bit_of s (place_of i) k))
    unfolding differs_at
    differs-some i l h =
        let d : bit_and (differences f s i) (slice_index f.mode i) ≢ 0 = grind (arith, nat_tests) in
        let t = some-bit (bit_and (differences f s i) (slice_index f.mode i)) (mode-256 (differences f s i) i) d in
        let b = with-mode i t.0 in
        let one = t.1.1 in
        (t.0, (record { byte = l; bit = t.1.0; is_masked = omega (arith, b, one); has_mode = omega (arith, b, one) }, λ same. omega (arith, b, one, same)))

    equals-from : (i : ℕ) → i < 16 → ((k : ℕ) → HasMode f i k 0 → bit_of f.filter i k ≡ bit_of s (place_of i) k) → equals_at f s i ≡ true
    unfolding equals_at
    equals-from i l h =
        let z : bit_and (differences f s i) (255 - slice_index f.mode i) ≡ 0 = no-bits _ (rest-256 (differences f s i) i) each in
        rw z refl
      where
        each : (k : ℕ) → k < 8 → bit_and (differences f s i) (255 - slice_index f.mode i) / 2 ^ k % 2 ≡ 0
        each k low =
            let b = without-mode i k (fits i) low in
            elim (cases_eq (bit_of f.mask i k) 1) [
              | inl m ↦ elim (cases_eq (bit_of f.mode i k) 0) [
                | inl z ↦ let same = h k (record { byte = l; bit = low; is_masked = m; has_mode = z }) in omega (arith, b, same)
                | inr o ↦ omega (arith, b, o)
              ]
              | inr m ↦ omega (arith, b, m)
            ]

    equals-at : (i k : ℕ) → equals_at f s i ≡ true → HasMode f i k 0 → bit_of f.filter i k ≡ bit_of s (place_of i) k
    unfolding equals_at
    equals-at i k h m =
        let z : bit_and (differences f s i) (255 - slice_index f.mode i) ≡ 0 = grind (arith, nat_tests) in
        let zero-bit : bit_and (differences f s i) (255 - slice_index f.mode i) / 2 ^ k % 2 ≡ 0 = ap (λ n. n / 2 ^ k % 2) z ∙ bit_at-zero k in
        omega (arith, without-mode i k (fits i) m.bit, zero-bit, m.is_masked, m.has_mode)

    reaches-at : (i : ℕ) → reaches_at f s i ≡ true → slice_index f.mask i ≢ 0 → place_of i < length s
    unfolding reaches_at
    reaches-at i h d =
        let e : nat_eq (slice_index f.mask i) 0 ≡ false = grind (arith, nat_tests) in
        let t : nat_lt (place_of i) (length s) ≡ true = rw e at h in
        grind (arith, nat_tests)

    reaches-from : (i : ℕ) → (slice_index f.mask i ≢ 0 → place_of i < length s) → reaches_at f s i ≡ true
    unfolding reaches_at
    reaches-from i h = elim (cases_eq (slice_index f.mask i) 0) [
      | inl z ↦ let e : nat_eq (slice_index f.mask i) 0 ≡ true = grind (arith, nat_tests) in rw e refl
      | inr d ↦ let l = h d in let t : nat_lt (place_of i) (length s) ≡ true = grind (arith, nat_tests) in rw t (or-true (nat_eq (slice_index f.mask i) 0))
    ]

    meant : matches f s ≡ true → IsMatch f s
    unfolding matches
    meant h =
        let first = (and_parts _ _ h).0 in
        let reach : list_all (reaches_at f s) (numbers_below 16) ≡ true = (and_parts _ _ first).0 in
        let equal : list_all (equals_at f s) (numbers_below 16) ≡ true = (and_parts _ _ first).1 in
        let negated : (not (list_any (negates_at f) (numbers_below 16)) || list_any (differs_at f s) (numbers_below 16)) ≡ true = (and_parts _ _ h).1 in
        record {
          reaches = λ i l. reaches-at i (all-at (reaches_at f s) 16 i reach l);
          equals = λ i k m. equals-at i k (all-at (equals_at f s) 16 i equal m.byte) m;
          differs = λ i k m.
              let n : list_any (negates_at f) (numbers_below 16) ≡ true = any-from (negates_at f) 16 i m.byte (negates-from i k m) in
              let d : list_any (differs_at f s) (numbers_below 16) ≡ true = rw n at negated in
              let j = any-some (differs_at f s) 16 d in
              let t = differs-some j.0 j.1.0 j.1.1 in
              (j.0, t.0, t.1);
        }

    meant-all : IsMatch f s → matches f s ≡ true
    unfolding matches
    meant-all h =
        let reach : list_all (reaches_at f s) (numbers_below 16) ≡ true = all-from (reaches_at f s) 16 (λ i l. reaches-from i (h.reaches i l)) in
        let equal : list_all (equals_at f s) (numbers_below 16) ≡ true = all-from (equals_at f s) 16 (λ i l. equals-from i l (λ k. h.equals i k)) in
        by_bool (list_any (negates_at f) (numbers_below 16)) _
        (λ n.
        let i = any-some (negates_at f) 16 n in
        let k = negates-some i.0 i.1.0 i.1.1 in
        let t = h.differs i.0 k.0 k.1 in
        let d : list_any (differs_at f s) (numbers_below 16) ≡ true = any-from (differs_at f s) 16 t.0 t.2.0.byte (differs-from t.0 t.1 t.2.0 t.2.1) in
        rw (reach, equal, n, d) refl)
        (λ n. rw (reach, equal, n) refl)

pub matches-means : (f : SectionFilter) (s : List ℕ) → ((i : ℕ) → slice_index f.mode i < 256) → IsTrue (matches f s) ↔ IsMatch f s
matches-means f s fits = (λ h. meant f s fits (search rules), λ h. let e = meant-all f s fits h in search rules)

pub returns : goal.returns
returns c = matches-means c.args.filter c.args.section.now (search rules)
