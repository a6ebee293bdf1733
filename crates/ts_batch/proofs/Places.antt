-- Places, packet by packet.
use Rattle.ts_batch.proofs.Imports.{◌≡◌, ℕ, zero, suc, ◌+◌, ◌-◌, ◌<◌, ◌≤◌, Bool, true, false, ◌||◌, nat_eq, List, [], ◌∷◌, ◌++◌, length, get_or, take, drop, slice_range, refl, sym, ap, ◌∙◌, arith, append_assoc, append-nil, inl, inr, All, drop_more, drop_all, take_all, take-append-le, drop-append-le, length-append, length-drop, drop-append_seam, list_any-append, All-append, nat_tests, cases_eq, or-true, or-false, pid_of, ALL_PACKETS, Run, Index, names, places_of, has_run, IsRun, IsIndex, places_from}

module _ (test : List ℕ → Bool) (items : List ℕ) (packets : List (List ℕ)) (i : ℕ) (d : List ℕ) (within : i < length packets) where
  -- a packet that passes
  pub places-yes : test (get_or packets i d) ≡ true → (items ++ i ∷ []) ++ places_from (i + 1) test (drop (i + 1) packets) ≡ items ++ places_from i test (drop i packets)
  unfolding places_from
  places-yes h = append_assoc items (i ∷ []) (places_from (i + 1) test (drop (i + 1) packets)) ∙ ap (λ l. items ++ l) (sym (ap (places_from i test) (drop_more packets i d within) ∙ rw h refl))

  -- and one that doesn't
  pub places-no : test (get_or packets i d) ≡ false → items ++ places_from (i + 1) test (drop (i + 1) packets) ≡ items ++ places_from i test (drop i packets)
  unfolding places_from
  places-no h = ap (λ l. items ++ l) (sym (ap (places_from i test) (drop_more packets i d within) ∙ rw h refl))

pub places-end : (test : List ℕ → Bool) (items : List ℕ) (packets : List (List ℕ)) (i : ℕ) → length packets ≤ i → items ++ places_from i test (drop i packets) ≡ items
unfolding places_from
places-end test items packets i h = ap (λ l. items ++ places_from i test l) (drop_all i packets h) ∙ append-nil items

-- no packet has the PID
none-from : (k pid : ℕ) (packets : List (List ℕ)) (runs : List Run) → nat_eq pid ALL_PACKETS ≡ false → has_run pid runs ≡ false
    → All (λ packet. has_run (pid_of packet) runs ≡ true) packets → places_from k (names pid) packets ≡ []
unfolding places_from
none-from k pid [] runs other none all = refl
none-from k pid (packet ∷ packets) runs other none all =
    let differs : nat_eq (pid_of packet) pid ≡ false = elim (cases_eq (pid_of packet) pid) [
      | inl e ↦ absurd (let first : has_run (pid_of packet) runs ≡ true = all 0 packet (omega arith) in let y : has_run pid runs ≡ true = rw e at first in cc)
      | inr d ↦ grind (arith, nat_tests)
    ] in
    rw (other, differs) (none-from (k + 1) pid packets runs other none (λ j d h. all (suc j) d (omega arith)))

pub none-named : (pid : ℕ) (packets : List (List ℕ)) (index : Index) → IsIndex packets index → has_run pid index.runs.items ≡ false → places_of pid packets ≡ []
none-named pid packets index h none =
    let other : nat_eq pid ALL_PACKETS ≡ false = elim (cases_eq pid ALL_PACKETS) [
      | inl e ↦ absurd (let y : has_run pid index.runs.items ≡ true = rw (← e) at h.all in cc)
      | inr d ↦ grind (arith, nat_tests)
    ] in
    none-from 0 pid packets index.runs.items other none h.each

-- ---- one run more

pub has-more : (pid : ℕ) (runs : List Run) (run : Run) → has_run pid (runs ++ run ∷ []) ≡ (has_run pid runs || nat_eq run.pid pid)
has-more pid runs run = list_any-append (λ r. nat_eq r.pid pid) runs (run ∷ []) ∙ ap (λ b. has_run pid runs || b) (or-false (nat_eq run.pid pid))

range-kept : (xs ys : List ℕ) (from to : ℕ) → from ≤ to → to ≤ length xs → slice_range (xs ++ ys) from to ≡ slice_range xs from to
range-kept xs ys from to h k =
    ap (take (to - from)) (drop-append-le from xs ys (omega arith)) ∙ take-append-le (to - from) (drop from xs) ys (omega (arith, length-drop from xs))

range-new : (xs ys : List ℕ) → slice_range (xs ++ ys) (length xs) (length (xs ++ ys)) ≡ ys
range-new xs ys =
    ap (take (length (xs ++ ys) - length xs)) (drop-append_seam xs ys) ∙ take_all (length (xs ++ ys) - length xs) ys (omega (arith, length-append xs ys))

-- the runs that were there stay right where places are appended
runs-kept : (packets : List (List ℕ)) (places more : List ℕ) (runs : List Run) → All (IsRun packets places) runs → All (IsRun packets (places ++ more)) runs
runs-kept packets places more runs h k d l =
    let r = h k d l in
    record { ordered = r.ordered; within = omega (arith, r.within, length-append places more); value = range-kept places more _ _ r.ordered r.within ∙ r.value }

-- the runs with one more
pub runs-more : (packets : List (List ℕ)) (pid : ℕ) (places : List ℕ) (runs : List Run) → All (IsRun packets places) runs
    → All (IsRun packets (places ++ places_of pid packets)) (runs ++ record { pid = pid; from = length places; to = length (places ++ places_of pid packets) } ∷ [])
runs-more packets pid places runs h =
    All-append (IsRun packets (places ++ places_of pid packets)) runs _ (runs-kept packets places (places_of pid packets) runs h) one
  where
    one : All (IsRun packets (places ++ places_of pid packets)) (record { pid = pid; from = length places; to = length (places ++ places_of pid packets) } ∷ [])
    one zero d l = record { ordered = omega (arith, length-append places (places_of pid packets)); within = omega arith; value = range-new places (places_of pid packets) }
    one (suc k) d l = absurd (omega arith)

-- what a listed PID changes
pub record Listed (packets : List (List ℕ)) (old : Index) (pid : ℕ) (new : Index) : Type 0 where
  pub runs : All (IsRun packets new.places.items) new.runs.items
  pub here : has_run pid new.runs.items ≡ true
  pub kept : (p : ℕ) → has_run p old.runs.items ≡ true → has_run p new.runs.items ≡ true

pub listed : (packets : List (List ℕ)) (old : Index) (pid : ℕ) (new : Index) → new.places.items ≡ old.places.items ++ places_of pid packets
    → new.runs.items ≡ old.runs.items ++ record { pid = pid; from = length old.places.items; to = length new.places.items } ∷ []
    → All (IsRun packets old.places.items) old.runs.items → Listed packets old pid new
listed packets old pid new places runs h =
    record {
      runs = rw (runs, places) (runs-more packets pid old.places.items old.runs.items h);
      here = rw runs (has-more pid old.runs.items _ ∙ rw (same pid) (or-true (has_run pid old.runs.items)));
      kept = λ p k. rw runs (has-more p old.runs.items _ ∙ rw k refl);
    }
  where
    same : (n : ℕ) → nat_eq n n ≡ true
    same n = grind (arith, nat_tests)
