-- Laws of heads.
use Rattle.ts_watch.proofs.Imports.{if◌then◌else◌, nat_lt, ◌≡◌, ℕ, ◌+◌, ◌<◌, ◌≤◌, Bool, true, false, List, [], ◌∷◌, ◌++◌, refl, arith, suc, add-one, nat_tests, Cut, cut, IsTally, counts, Tally, PacketSize, Head, told_head, tally_of, row_of, rows_below, head_of}

rows-by : (n : ℕ) (packets : List (List ℕ)) (b : Bool) → nat_lt 0 (counts packets n).packets ≡ b → rows_below (suc n) packets ≡ (if b then rows_below n packets ++ (n, row_of packets n) ∷ [] else rows_below n packets)
unfolding rows_below
rows-by n packets b e = rw e refl

-- one PID more
pub rows-more : (n : ℕ) (packets : List (List ℕ)) → 0 < (counts packets n).packets → rows_below (n + 1) packets ≡ rows_below n packets ++ (n, row_of packets n) ∷ []
rows-more n packets h = (let e : nat_lt 0 (counts packets n).packets ≡ true = grind (arith, nat_tests) in rw add-one (rows-by n packets true e))

pub rows-same : (n : ℕ) (packets : List (List ℕ)) → (counts packets n).packets ≤ 0 → rows_below (n + 1) packets ≡ rows_below n packets
rows-same n packets h = (let e : nat_lt 0 (counts packets n).packets ≡ false = grind (arith, nat_tests) in rw add-one (rows-by n packets false e))

pub rows-none : (packets : List (List ℕ)) → rows_below 0 packets ≡ []
unfolding rows_below
rows-none packets = refl

tally-is : (c : Cut) (tally : Tally) → IsTally c tally → tally ≡ tally_of c
tally-is c tally h = rw (← h.packets, ← h.skipped, ← h.rest) refl

-- the parts of a head
pub head-is : (size : PacketSize) (bytes : List ℕ) (failed : Bool) (head : Head) → IsTally (cut size bytes) head.tally → head.rows.items ≡ rows_below 8192 (cut size bytes).packets → head.read_fault ≡ failed → told_head head ≡ head_of size bytes failed
unfolding head_of
head-is size bytes failed head t r f = rw (tally-is (cut size bytes) head.tally t, r, f) refl
