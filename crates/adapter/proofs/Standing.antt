-- Entries in order of place, each place named once, are woven so that each stands at its place.
use Rattle.adapter.proofs.Imports.{ℕ, suc, ◌+◌, ◌<◌, ◌≤◌, ◌≡◌, refl, subst, Bool, true, false, List, [], ◌∷◌, length, map, nat_eq, nat_lt, if◌then◌else◌, All, arith, IsNonDecreasingBy, nat_tests, ToldEntry, told_entry, Act, feeder_entry, feeder_entries, before_entry, woven_from, AreInPlace}
use Rattle.std.specs.List.{IsDistinct}

-- the places rise, from this one on
abbrev pub Ascends : (place : ℕ) → List ToldEntry → Type 0
Ascends place [] = Unit {0}
Ascends place (e ∷ calls) = (place ≤ e.place) × Ascends (suc e.place) calls

ascends-behind : (e : ToldEntry) (calls : List ToldEntry) → IsNonDecreasingBy (λ (e : ToldEntry). e.place) (e ∷ calls) → IsDistinct nat_eq (map (λ (e : ToldEntry). e.place) (e ∷ calls)) → Ascends (suc e.place) calls
unfolding IsDistinct
ascends-behind e [] order once = tt
ascends-behind e (f ∷ calls) order once =
    let le : e.place ≤ f.place = order 0 1 e (omega arith) (omega arith) in
    let apart = once.0.0 in
    (grind (arith, nat_tests), ascends-behind f calls (λ i j d low there. order (suc i) (suc j) d (omega (arith, low)) (omega (arith, there))) once.1)

pub ascends : (calls : List ToldEntry) → IsNonDecreasingBy (λ (e : ToldEntry). e.place) calls → IsDistinct nat_eq (map (λ (e : ToldEntry). e.place) calls) → Ascends 0 calls
ascends [] order once = tt
ascends (e ∷ calls) order once = (omega arith, ascends-behind e calls order once)

room : (most : ℕ) (e : ToldEntry) (calls : List ToldEntry) → Ascends (suc e.place) calls → All (λ (e : ToldEntry). e.place < most) (e ∷ calls) → e.place + suc (length calls) ≤ most
room most e [] up below = let b : e.place < most = below 0 e (omega arith) in omega (arith, b)
room most e (f ∷ calls) up below =
    let r = room most f calls up.1 (λ k d low. below (suc k) d (omega (arith, low))) in
    let u = up.0 in omega (arith, r, u)

feeder-in-place : (node p s : ℕ) (acts : List Act) → AreInPlace p (feeder_entries node p s acts)
feeder-in-place node p s [] = tt
feeder-in-place node p s (a ∷ acts) = (refl, feeder-in-place node (suc p) (suc s) acts)

module _ (node most : ℕ) (e : ToldEntry) (calls : List ToldEntry) (up : Ascends (suc e.place) calls) (below : All (λ (e : ToldEntry). e.place < most) (e ∷ calls))
    (later : (p s : ℕ) (acts : List Act) → Ascends p calls → p + length acts + length calls ≡ most → AreInPlace p (woven_from node (map told_entry calls) p s acts)) where
  here : (p s : ℕ) (acts : List Act) → e.place ≡ p → p + length acts + suc (length calls) ≡ most → AreInPlace p (told_entry e ∷ woven_from node (map told_entry calls) (suc p) s acts)
  here p s acts at sum = (at, later (suc p) s acts (subst (λ p. Ascends (suc p) calls) at up) (omega (arith, sum)))

  before-in-place : (p s : ℕ) (acts : List Act) → p ≤ e.place → p + length acts + suc (length calls) ≡ most → AreInPlace p (before_entry node (told_entry e) (woven_from node (map told_entry calls)) p s acts)
  before-in-place p s [] low sum = here p s [] (let r = room most e calls up below in omega (arith, r, low, sum)) sum
  before-in-place p s (a ∷ acts) low sum =
      by_test (nat_lt p e.place) refl (λ under. before-in-place (suc p) (suc s) acts under (omega (arith, sum))) where
        by_test : (b : Bool) → nat_lt p e.place ≡ b → (suc p ≤ e.place → AreInPlace (suc p) (before_entry node (told_entry e) (woven_from node (map told_entry calls)) (suc p) (suc s) acts))
            → AreInPlace p (if b then feeder_entry node p s a ∷ before_entry node (told_entry e) (woven_from node (map told_entry calls)) (suc p) (suc s) acts else told_entry e ∷ woven_from node (map told_entry calls) (suc p) s (a ∷ acts))
        by_test true y go = (refl, go (let under : p < e.place = grind (arith, nat_tests) in omega (arith, under)))
        by_test false y go = here p s (a ∷ acts) (let past : e.place ≤ p = grind (arith, nat_tests) in omega (arith, past, low)) sum

pub in-place : (node most : ℕ) (calls : List ToldEntry) (p s : ℕ) (acts : List Act) → All (λ (e : ToldEntry). e.place < most) calls → Ascends p calls → p + length acts + length calls ≡ most
    → AreInPlace p (woven_from node (map told_entry calls) p s acts)
in-place node most [] p s acts below up sum = feeder-in-place node p s acts
in-place node most (e ∷ calls) p s acts below up sum =
    before-in-place node most e calls up.1 below (λ p s acts up sum. in-place node most calls p s acts (λ k d low. below (suc k) d (omega (arith, low))) up sum) p s acts up.0 sum
