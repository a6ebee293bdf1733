-- What a search tells of the place of a PID in an ascending list.
use Rattle.pid_set.proofs.set.find.Goals as goal
use Rattle.std.proofs.Common.{◌≡◌, ℕ, zero, suc, ◌<◌, ◌≤◌, true, false, not, nat_eq, nat_lt, List, [], ◌∷◌, ◌++◌, length, take, drop, slice_index, slice_index_or, Result, Ok, Err, IfOk, IfErr, refl, sym, ap, inl, inr, arith}
use Rattle.std.specs.declared.cmp.Ordering.{Ordering}
use Rattle.std.specs.declared.cmp.Ordering.TheVariants.{Less, Equal, Greater}
use Rattle.std.specs.Ordering.{nat_cmp, ordering_index, MatchOrdering}
use Rattle.std.specs.List.{filter, insert, remove, HoldsAt}
use Rattle.std.specs.List.Sorted.{IsNonDecreasingBy, IsSearchInRange, IsBinarySearchResult}
use Rattle.std.proofs.lemmas.Bool.{cases_lt}
use Rattle.std.proofs.lemmas.Bool.Decides.{nat_tests}
use Rattle.std.proofs.lemmas.Cmp.{ranked}
use Rattle.std.proofs.lemmas.List.{get_or_default}
use Rattle.pid_set.specs.Pids.{has_pid, with_pid, without_pid, IsAscending}
use Rattle.pid_set.proofs.Rising.{Above, Rising, above-from, above-at, rising-from, lower-none, higher-all, others-all, has-none, is-added, is-removed}

-- ---- a PID that is there

pub record Found (pid : ℕ) (ps : List ℕ) (i : ℕ) : Type 0 where
  pub has : has_pid pid ps ≡ true
  pub others : filter (λ p. not (nat_eq pid p)) ps ≡ take i ps ++ drop (suc i) ps

found-at : (pid : ℕ) (ps : List ℕ) (i : ℕ) → Rising ps → i < length ps → slice_index ps i ≡ pid → Found pid ps i
found-at pid [] i r l h = absurd (omega arith)
found-at pid (p ∷ ps) zero r l h =
    let e : nat_eq pid p ≡ true = grind (arith, nat_tests) in
    let above : Above pid ps = rw h at r.0 in
    record { has = rw e refl; others = rw e (others-all pid ps above) }
found-at pid (p ∷ ps) (suc i) r l h =
    let low = above-at p ps i r.0 (omega arith) in
    let e : nat_eq pid p ≡ false = grind (arith, nat_tests) in
    let rest = found-at pid ps i r.1 (omega arith) h in
    record { has = rw e rest.has; others = rw e (ap (λ qs. p ∷ qs) rest.others) }

-- ---- a PID that isn't

pub record Absent (pid : ℕ) (ps : List ℕ) (i : ℕ) : Type 0 where
  pub has : has_pid pid ps ≡ false
  pub lower : filter (λ p. nat_lt p pid) ps ≡ take i ps
  pub higher : filter (λ p. nat_lt pid p) ps ≡ drop i ps

absent-at : (pid : ℕ) (ps : List ℕ) (i : ℕ) → i ≤ length ps → ((k : ℕ) → k < i → slice_index ps k < pid) → ((k : ℕ) → i ≤ k → k < length ps → pid < slice_index ps k) → Absent pid ps i
absent-at pid [] zero l low high = record { has = refl; lower = refl; higher = refl }
absent-at pid [] (suc i) l low high = absurd (omega arith)
absent-at pid (p ∷ ps) zero l low high =
    let above : Above pid (p ∷ ps) = above-from pid (p ∷ ps) (λ k m. high k (omega arith) m) in
    record { has = has-none pid (p ∷ ps) above; lower = lower-none pid (p ∷ ps) above; higher = higher-all pid (p ∷ ps) above }
absent-at pid (p ∷ ps) (suc i) l low high =
    let first : p < pid = low 0 (omega arith) in
    let e : nat_eq pid p ≡ false = grind (arith, nat_tests) in
    let f : nat_lt p pid ≡ true = grind (arith, nat_tests) in
    let g : nat_lt pid p ≡ false = grind (arith, nat_tests) in
    let rest = absent-at pid ps i (omega arith) (λ k m. low (suc k) (omega arith)) (λ k m n. high (suc k) (omega arith) (omega arith)) in
    record { has = rw e rest.has; lower = rw f (ap (λ qs. p ∷ qs) rest.lower); higher = rw g rest.higher }

-- ---- what the comparisons of a search tell

means : (r : Ordering) (x y : ℕ) → nat_cmp x y ≡ r → MatchOrdering r (x < y) (x ≡ y) (y < x)
means r x y h = ranked x y r (sym h)

index-rises : (r s : Ordering) (a b p : ℕ) → MatchOrdering r (a < p) (a ≡ p) (p < a) → MatchOrdering s (b < p) (b ≡ p) (p < b) → a ≤ b → ordering_index r ≤ ordering_index s
index-rises Less s a b p h k l = omega arith
index-rises Equal Less a b p h k l = absurd (omega arith)
index-rises Equal Equal a b p h k l = omega arith
index-rises Equal Greater a b p h k l = omega arith
index-rises Greater Less a b p h k l = absurd (omega arith)
index-rises Greater Equal a b p h k l = absurd (omega arith)
index-rises Greater Greater a b p h k l = omega arith

pub compares-up : (pid : ℕ) (ps : List ℕ) → IsAscending ps → IsNonDecreasingBy (λ p. ordering_index (nat_cmp p pid)) ps
compares-up pid ps h i j d l m =
    let e = get_or_default ps i d 0 (omega arith) in
    let f = get_or_default ps j d 0 m in
    let up : slice_index_or ps i d ≤ slice_index_or ps j d = elim (cases_lt i j) [
      | inl k ↦ omega (arith, e, f, h i j k m)
      | inr k ↦ let same : i ≡ j = omega arith in rw same (omega arith)
    ] in
    index-rises (nat_cmp (slice_index_or ps i d) pid) (nat_cmp (slice_index_or ps j d) pid) (slice_index_or ps i d) (slice_index_or ps j d) pid (means (nat_cmp (slice_index_or ps i d) pid) (slice_index_or ps i d) pid refl) (means (nat_cmp (slice_index_or ps j d) pid) (slice_index_or ps j d) pid refl) up

-- ---- the search

pub search-found : (pid : ℕ) (ps : List ℕ) (i : ℕ) → IsAscending ps → i < length ps → ((d : ℕ) → nat_cmp (slice_index_or ps i d) pid ≡ Equal)
    → (i < length ps) × (has_pid pid ps ≡ true) × (without_pid pid ps ≡ remove ps i) × (with_pid pid ps ≡ ps)
unfolding without_pid
search-found pid ps i h l e =
    let same : slice_index ps i ≡ pid = means Equal (slice_index_or ps i 0) pid (e 0) in
    let f = found-at pid ps i (rising-from ps h) l same in
    (l, f.has, f.others, (is-added pid ps h).same f.has)

pub search-absent : (pid : ℕ) (ps : List ℕ) (i : ℕ) → IsAscending ps → i ≤ length ps
    → ((k d : ℕ) → 0 ≤ k → k < i → nat_cmp (slice_index_or ps k d) pid ≡ Less)
    → ((k d : ℕ) → i ≤ k → k < length ps → nat_cmp (slice_index_or ps k d) pid ≡ Greater)
    → (i ≤ length ps) × (has_pid pid ps ≡ false) × (with_pid pid ps ≡ insert ps i pid) × (without_pid pid ps ≡ ps)
unfolding with_pid
search-absent pid ps i h l low high =
    let f = absent-at pid ps i l (λ k m. means Less _ pid (low k 0 (omega arith) m)) (λ k m n. means Greater _ pid (high k 0 m n)) in
    (l, f.has, rw (f.lower, f.higher) refl, (is-removed pid ps h).same f.has)

pub of-found : (r : Result ℕ ℕ) (pid : ℕ) (ps : List ℕ) → IsAscending ps → IsSearchInRange r (length ps) → IfOk r (HoldsAt (λ y. nat_cmp y pid ≡ Equal) ps)
    → IfOk r (λ i. (i < length ps) × (has_pid pid ps ≡ true) × (without_pid pid ps ≡ remove ps i) × (with_pid pid ps ≡ ps))
of-found (Ok i) pid ps h within at = search-found pid ps i h within at
of-found (Err i) pid ps h within at = tt

pub of-absent : (r : Result ℕ ℕ) (pid : ℕ) (ps : List ℕ) → IsAscending ps → IsSearchInRange r (length ps) → IsBinarySearchResult (λ y. nat_cmp y pid) ps r
    → IfErr r (λ i. (i ≤ length ps) × (has_pid pid ps ≡ false) × (with_pid pid ps ≡ insert ps i pid) × (without_pid pid ps ≡ ps))
of-absent (Ok i) pid ps h within at = tt
of-absent (Err i) pid ps h within at = let sides = at (compares-up pid ps h) in search-absent pid ps i h within sides.0 sides.1

pub returns-clause-found : goal.returns-clause-found
returns-clause-found c = of-found c.binary_search.result c.args.pid c.args.pids.now c.requires.ascending c.binary_search.ensures.bound c.binary_search.ensures.ok

pub returns-clause-absent : goal.returns-clause-absent
returns-clause-absent c = of-absent c.binary_search.result c.args.pid c.args.pids.now c.requires.ascending c.binary_search.ensures.bound c.binary_search.ensures.position
