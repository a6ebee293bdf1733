-- Tests over sixteen lanes are tests over the sixteen places.
use Rattle.filter_match.proofs.Imports.{◌≡◌, ℕ, zero, suc, ◌+◌, ◌-◌, ◌*◌, ◌<◌, ◌≤◌, bit_and, bit_xor, cond, Bool, true, false, not, ◌&&◌, ◌||◌, nat_eq, List, [], ◌∷◌, map, length, take, slice_index, refl, sym, ap, ◌∙◌, arith, inl, inr, list_all, list_any, take-suc, mask_l, zip2, get_or-map, length-map, get_or-zip2, length-zip2, list_all-append, nat_tests, cases_eq, SectionFilter, place_of, differences, equals_at, differs_at, numbers_below}
use Rattle.filter_match.proofs.Bytes.{all-more, any-more, differences-is, equals-is, differs-is}

-- a mask of bits is 0 just where no lane passes
pub mask-none : (p : ℕ → Bool) (xs : List ℕ) → nat_eq (mask_l (map p xs)) 0 ≡ list_all (λ x. not (p x)) xs
mask-none p [] = refl
mask-none p (x ∷ xs) = go (p x) (mask-none p xs)
  where
    go : (b : Bool) → nat_eq (mask_l (map p xs)) 0 ≡ list_all (λ y. not (p y)) xs → nat_eq (cond b 1 0 + 2 * mask_l (map p xs)) 0 ≡ (not b && list_all (λ y. not (p y)) xs)
    go true h = grind (arith, nat_tests)
    go false h = let e : nat_eq (0 + 2 * mask_l (map p xs)) 0 ≡ nat_eq (mask_l (map p xs)) 0 = elim (cases_eq (mask_l (map p xs)) 0) [
      | inl z ↦ rw z refl
      | inr d ↦ grind (arith, nat_tests)
    ] in e ∙ h

-- all of a list, place by place
pub all-places : (p : ℕ → Bool) (xs : List ℕ) (n : ℕ) → n ≤ length xs → list_all p (take n xs) ≡ list_all (λ i. p (slice_index xs i)) (numbers_below n)
unfolding numbers_below
all-places p xs zero h = refl
all-places p xs (suc n) h =
    ap (list_all p) (take-suc xs n 0 (omega arith))
    ∙ list_all-append p (take n xs) (slice_index xs n ∷ [])
    ∙ rw (all-places p xs n (omega arith)) (sym (list_all-append (λ i. p (slice_index xs i)) (numbers_below n) (n ∷ [])))

-- tests that agree below n agree over all places below n
pub all-same : (p q : ℕ → Bool) (n : ℕ) → ((i : ℕ) → i < n → p i ≡ q i) → list_all p (numbers_below n) ≡ list_all q (numbers_below n)
unfolding numbers_below
all-same p q zero h = refl
all-same p q (suc n) h =
    let e : suc n ≡ n + 1 = omega arith in
    ap (λ m. list_all p (numbers_below m)) e ∙ all-more p n ∙ rw (all-same p q n (λ i l. h i (omega arith)), h n (omega arith)) (sym (all-more q n)) ∙ ap (λ m. list_all q (numbers_below m)) (sym e)

not-and : (a b : Bool) → not (a && b) ≡ (not a || not b)
not-and true b = refl
not-and false b = refl

-- not all pass just where one fails
pub any-not : (p q : ℕ → Bool) (n : ℕ) → ((i : ℕ) → i < n → not (p i) ≡ q i) → not (list_all p (numbers_below n)) ≡ list_any q (numbers_below n)
unfolding numbers_below
any-not p q zero h = refl
any-not p q (suc n) h =
    let e : suc n ≡ n + 1 = omega arith in
    ap (λ m. not (list_all p (numbers_below m))) e ∙ ap not (all-more p n) ∙ not-and (list_all p (numbers_below n)) (p n)
    ∙ rw (any-not p q n (λ i l. h i (omega arith)), h n (omega arith)) (sym (any-more q n)) ∙ ap (λ m. list_any q (numbers_below m)) (sym e)

-- ---- the lanes of the differences

module _ (f : SectionFilter) (s bytes : List ℕ) (filter : length f.filter ≡ 16) (mask : length f.mask ≡ 16) (mode : length f.mode ≡ 16)
    (long : length bytes ≡ 16) (i : ℕ) (within : i < 16) (byte : slice_index bytes i ≡ slice_index s (place_of i)) where
  abbrev lanes : List ℕ
  lanes = zip2 bit_and (zip2 bit_xor f.filter bytes) f.mask

  sums-16 : length (zip2 bit_xor f.filter bytes) ≡ 16
  sums-16 = length-zip2 bit_xor f.filter bytes (filter ∙ sym long) ∙ filter

  lanes-16 : length lanes ≡ 16
  lanes-16 = length-zip2 bit_and (zip2 bit_xor f.filter bytes) f.mask (sums-16 ∙ sym mask) ∙ sums-16

  lane-is : slice_index lanes i ≡ differences f s i
  lane-is =
      get_or-zip2 bit_and (zip2 bit_xor f.filter bytes) f.mask i 0 0 0 (omega (arith, sums-16)) (omega arith)
      ∙ ap (λ n. bit_and n (slice_index f.mask i)) (get_or-zip2 bit_xor f.filter bytes i 0 0 0 (omega arith) (omega arith))
      ∙ differences-is f s i (slice_index bytes i) byte

  pub lane-equals : nat_eq (slice_index (zip2 bit_and lanes (map (λ m. 255 - m) f.mode)) i) 0 ≡ equals_at f s i
  lane-equals =
      ap (λ n. nat_eq n 0) (get_or-zip2 bit_and lanes (map (λ m. 255 - m) f.mode) i 0 0 0 (omega (arith, lanes-16)) (omega (arith, length-map f.mode (λ m. 255 - m)))
      ∙ ap (bit_and (slice_index lanes i)) (get_or-map (λ m. 255 - m) f.mode i 0 0 (omega arith)))
      ∙ equals-is f s i (slice_index lanes i) lane-is

  pub lane-differs : not (nat_eq (slice_index (zip2 bit_and lanes f.mode) i) 0) ≡ differs_at f s i
  lane-differs =
      ap (λ n. not (nat_eq n 0)) (get_or-zip2 bit_and lanes f.mode i 0 0 0 (omega (arith, lanes-16)) (omega arith))
      ∙ differs-is f s i (slice_index lanes i) lane-is
