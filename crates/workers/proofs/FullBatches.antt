-- The feeder's batches are those of a run.
use Rattle.workers.proofs.Imports.{◌≡◌, ℕ, Bool, ◌+◌, ◌≤◌, List, [], ◌∷◌, map, sum, get_or, arith, IsTrue, AllByRecursion, All-head, All-tail, sum_by-cons, slice_get-get_or, Fed, feeder_acts, Batch, IsGiven, Tiles, batch_of}
use Rattle.std.proofs.Common.{All}
use Rattle.workers.proofs.Members.{all_at}

sizes_are : (most first end : ℕ) (fs : List Fed) → Tiles most first end fs → AllByRecursion (λ (b : Batch). (1 ≤ b.size) × (b.size ≤ most)) (map batch_of fs)
sizes_are most first end [] tiles = tt
sizes_are most first end (f ∷ fs) tiles = ((tiles.1, tiles.2), sizes_are most (first + f.count) end fs tiles.3)

-- each has 1 to `most` packets
pub sizes : (most first end : ℕ) (fs : List Fed) → Tiles most first end fs → All (λ (b : Batch). (1 ≤ b.size) × (b.size ≤ most)) (map batch_of fs)
sizes most first end fs tiles k d low =
    all_at (λ (b : Batch). (1 ≤ b.size) × (b.size ≤ most)) (map batch_of fs) (sizes_are most first end fs tiles) k (get_or (map batch_of fs) k d) (slice_get-get_or (map batch_of fs) k d low)

-- together they have the packets from the first on
pub total_is : (most first end : ℕ) (fs : List Fed) → Tiles most first end fs → first + sum (map (λ (b : Batch). b.size) (map batch_of fs)) ≡ end
total_is most first end [] tiles = let e : first ≡ end = tiles in omega (arith, e)
total_is most first end (f ∷ fs) tiles =
    let rest = total_is most (first + f.count) end fs tiles.3 in
    let l = map (λ (b : Batch). b.size) (map batch_of fs) in
    let one : sum (f.count ∷ l) ≡ f.count + sum l = sum_by-cons (λ x. x) f.count l in omega (arith, rest, one)

-- each call of the feeder is at a moment that the clock may give
pub given : (may : ℕ → Bool) (fs : List Fed) → All (λ fed. IsTrue (may fed.now)) fs → AllByRecursion (IsGiven may) (feeder_acts fs)
given may [] all = (tt, tt)
given may (f ∷ fs) all = (All-head (λ (fed : Fed). IsTrue (may fed.now)) f fs all, given may fs (All-tail (λ (fed : Fed). IsTrue (may fed.now)) f fs all))
