-- A place is listed just where its packet is named.
use Rattle.ts_batch.proofs.Imports.{◌≡◌, ℕ, zero, suc, ◌+◌, ◌<◌, Bool, true, false, nat_eq, List, [], ◌∷◌, length, get_or, replicate, refl, sym, ap, ◌∙◌, arith, list_any, nat_tests, places_from}

module _ (test : List ℕ → Bool) where
  pub places-below : (k : ℕ) (packets : List (List ℕ)) (n d : ℕ) → n < length (places_from k test packets) → get_or (places_from k test packets) n d < k + length packets
  unfolding places_from
  places-below k [] n d h = absurd (omega arith)
  places-below k (p ∷ ps) n d h = by-test (test p) refl n (λ m l. places-below (k + 1) ps m d l) h
    where
      by-test : (b : Bool) → test p ≡ b → (m : ℕ) → ((i : ℕ) → i < length (places_from (k + 1) test ps) → get_or (places_from (k + 1) test ps) i d < k + 1 + length ps)
          → m < length (places_from k test (p ∷ ps)) → get_or (places_from k test (p ∷ ps)) m d < k + suc (length ps)
      by-test true e zero rest l = rw e (omega arith)
      by-test true e (suc i) rest l = let within : suc i < suc (length (places_from (k + 1) test ps)) = rw e at l in rw e (omega (arith, rest i (omega arith)))
      by-test false e m rest l = let within : m < length (places_from (k + 1) test ps) = rw e at l in rw e (omega (arith, rest m within))

  absent : (k : ℕ) (packets : List (List ℕ)) (m : ℕ) → m < k → list_any (nat_eq m) (places_from k test packets) ≡ false
  unfolding places_from
  absent k [] m h = refl
  absent k (p ∷ ps) m h = by-test (test p) refl (absent (k + 1) ps m (omega arith))
    where
      by-test : (b : Bool) → test p ≡ b → list_any (nat_eq m) (places_from (k + 1) test ps) ≡ false → list_any (nat_eq m) (places_from k test (p ∷ ps)) ≡ false
      by-test true e rest = let differs : nat_eq m k ≡ false = grind (arith, nat_tests) in rw (e, differs) rest
      by-test false e rest = rw e rest

  pub member : (k : ℕ) (packets : List (List ℕ)) (j : ℕ) (d : List ℕ) → j < length packets → list_any (nat_eq (k + j)) (places_from k test packets) ≡ test (get_or packets j d)
  unfolding places_from
  member k [] j d h = absurd (omega arith)
  member k (p ∷ ps) zero d h = by-test (test p) refl (absent (k + 1) ps (k + 0) (omega arith))
    where
      by-test : (b : Bool) → test p ≡ b → list_any (nat_eq (k + 0)) (places_from (k + 1) test ps) ≡ false → list_any (nat_eq (k + 0)) (places_from k test (p ∷ ps)) ≡ test p
      by-test true e rest = let same : nat_eq (k + 0) k ≡ true = grind (arith, nat_tests) in rw (e, same) refl
      by-test false e rest = rw e rest
  member k (p ∷ ps) (suc j) d h =
      let shift : k + 1 + j ≡ k + suc j = omega arith in
      by-test (test p) refl (ap (λ m. list_any (nat_eq m) (places_from (k + 1) test ps)) (sym shift) ∙ member (k + 1) ps j d (omega arith))
    where
      by-test : (b : Bool) → test p ≡ b → list_any (nat_eq (k + suc j)) (places_from (k + 1) test ps) ≡ test (get_or ps j d)
          → list_any (nat_eq (k + suc j)) (places_from k test (p ∷ ps)) ≡ test (get_or ps j d)
      by-test true e rest = let differs : nat_eq (k + suc j) k ≡ false = grind (arith, nat_tests) in rw (e, differs) rest
      by-test false e rest = rw e rest

pub none-in : (n i : ℕ) → get_or (replicate n false) i false ≡ false
none-in zero i = refl
none-in (suc n) zero = refl
none-in (suc n) (suc i) = none-in n i
