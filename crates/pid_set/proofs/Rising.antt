-- Ascending lists by recursion, and what adding and removing a PID does to them.
use Rattle.std.proofs.Common.{◌≡◌, ℕ, zero, suc, ◌<◌, ◌^◌, Bool, true, false, not, ◌&&◌, ◌||◌, nat_eq, nat_lt, List, [], ◌∷◌, ◌++◌, length, slice_index, refl, sym, ap, ◌∙◌, inl, inr, arith}
use Rattle.std.specs.List.{list_any, filter}
use Rattle.std.proofs.lemmas.Bool.{cases_eq, cases_lt}
use Rattle.std.proofs.Math.Bool.{or-true, and-false}
use Rattle.lemmas.proofs.Tests.{by_bool}
use Rattle.std.proofs.lemmas.Bool.Decides.{nat_tests}
use Rattle.std.proofs.lemmas.List.Folds.{list_any-append}
use Rattle.pid_set.specs.Pids.{has_pid, with_pid, without_pid, IsAscending, ArePids}
use Rattle.pid_set.specs.Sets.{IsAdded, IsRemoved}

-- each is above p, or below p
abbrev pub Above : ℕ → List ℕ → Type 0
Above p [] = Unit {0}
Above p (q ∷ qs) = (p < q) × Above p qs

abbrev pub Below : ℕ → List ℕ → Type 0
Below p [] = Unit {0}
Below p (q ∷ qs) = (q < p) × Below p qs

abbrev pub Rising : List ℕ → Type 0
Rising [] = Unit {0}
Rising (p ∷ ps) = Above p ps × Rising ps

-- ---- the two forms of ascending

pub above-from : (p : ℕ) (ps : List ℕ) → ((j : ℕ) → j < length ps → p < slice_index ps j) → Above p ps
above-from p [] h = tt
above-from p (q ∷ qs) h = (h 0 (omega arith), above-from p qs (λ j l. h (suc j) (omega arith)))

pub above-at : (p : ℕ) (ps : List ℕ) (j : ℕ) → Above p ps → j < length ps → p < slice_index ps j
above-at p [] j a l = absurd (omega arith)
above-at p (q ∷ qs) zero a l = a.0
above-at p (q ∷ qs) (suc j) a l = above-at p qs j a.1 (omega arith)

pub rising-from : (ps : List ℕ) → IsAscending ps → Rising ps
rising-from [] h = tt
rising-from (p ∷ ps) h =
    (above-from p ps (λ j l. h 0 (suc j) (omega arith) (omega arith)), rising-from ps (λ i j l m. h (suc i) (suc j) (omega arith) (omega arith)))

pub ascending-from : (ps : List ℕ) → Rising ps → IsAscending ps
ascending-from [] r i j l m = absurd (omega arith)
ascending-from (p ∷ ps) r i zero l m = absurd (omega arith)
ascending-from (p ∷ ps) r zero (suc j) l m = above-at p ps j r.0 (omega arith)
ascending-from (p ∷ ps) r (suc i) (suc j) l m = ascending-from ps r.1 i j (omega arith) (omega arith)

-- ---- lists that are joined and filtered

pub above-less : (p q : ℕ) (ps : List ℕ) → p < q → Above q ps → Above p ps
above-less p q [] l a = tt
above-less p q (x ∷ xs) l a = (omega (arith, a.0), above-less p q xs l a.1)

above-append : (p : ℕ) (xs ys : List ℕ) → Above p xs → Above p ys → Above p (xs ++ ys)
above-append p [] ys a b = b
above-append p (x ∷ xs) ys a b = (a.0, above-append p xs ys a.1 b)

rising-around : (pid : ℕ) (xs ys : List ℕ) → Rising xs → Rising ys → Below pid xs → Above pid ys → Rising (xs ++ pid ∷ ys)
rising-around pid [] ys r s b a = (a, s)
rising-around pid (x ∷ xs) ys r s b a =
    (above-append x xs (pid ∷ ys) r.0 (b.0, above-less x pid ys b.0 a), rising-around pid xs ys r.1 s b.1 a)

above-filter : (t : ℕ → Bool) (p : ℕ) (ps : List ℕ) → Above p ps → Above p (filter t ps)
above-filter t p [] a = tt
above-filter t p (q ∷ qs) a = by_bool (t q) (Above p (filter t (q ∷ qs)))
    (λ e. rw e (a.0, above-filter t p qs a.1))
    (λ e. rw e (above-filter t p qs a.1))

rising-filter : (t : ℕ → Bool) (ps : List ℕ) → Rising ps → Rising (filter t ps)
rising-filter t [] r = tt
rising-filter t (p ∷ ps) r = by_bool (t p) (Rising (filter t (p ∷ ps)))
    (λ e. rw e (above-filter t p ps r.0, rising-filter t ps r.1))
    (λ e. rw e (rising-filter t ps r.1))

lower-below : (pid : ℕ) (ps : List ℕ) → Below pid (filter (λ p. nat_lt p pid) ps)
lower-below pid [] = tt
lower-below pid (p ∷ ps) = by_bool (nat_lt p pid) (Below pid (filter (λ q. nat_lt q pid) (p ∷ ps)))
    (λ e. let l : p < pid = grind (arith, nat_tests) in rw e (l, lower-below pid ps))
    (λ e. rw e (lower-below pid ps))

higher-above : (pid : ℕ) (ps : List ℕ) → Above pid (filter (λ p. nat_lt pid p) ps)
higher-above pid [] = tt
higher-above pid (p ∷ ps) = by_bool (nat_lt pid p) (Above pid (filter (λ q. nat_lt pid q) (p ∷ ps)))
    (λ e. let l : pid < p = grind (arith, nat_tests) in rw e (l, higher-above pid ps))
    (λ e. rw e (higher-above pid ps))

-- ---- lists wholly above a PID

pub lower-none : (pid : ℕ) (ps : List ℕ) → Above pid ps → filter (λ p. nat_lt p pid) ps ≡ []
lower-none pid [] a = refl
lower-none pid (p ∷ ps) a = let l = a.0 in let e : nat_lt p pid ≡ false = grind (arith, nat_tests) in rw e (lower-none pid ps a.1)

pub higher-all : (pid : ℕ) (ps : List ℕ) → Above pid ps → filter (λ p. nat_lt pid p) ps ≡ ps
higher-all pid [] a = refl
higher-all pid (p ∷ ps) a = let l = a.0 in let e : nat_lt pid p ≡ true = grind (arith, nat_tests) in rw e (ap (λ qs. p ∷ qs) (higher-all pid ps a.1))

pub others-all : (pid : ℕ) (ps : List ℕ) → Above pid ps → filter (λ p. not (nat_eq pid p)) ps ≡ ps
others-all pid [] a = refl
others-all pid (p ∷ ps) a = let l = a.0 in let e : nat_eq pid p ≡ false = grind (arith, nat_tests) in rw e (ap (λ qs. p ∷ qs) (others-all pid ps a.1))

pub has-none : (pid : ℕ) (ps : List ℕ) → Above pid ps → has_pid pid ps ≡ false
has-none pid [] a = refl
has-none pid (p ∷ ps) a = let l = a.0 in let e : nat_eq pid p ≡ false = grind (arith, nat_tests) in rw e (has-none pid ps a.1)

-- ---- the members

-- what a PID between two parts adds, told of a list with one more below it, in its place, or above it
or-low : (x l e h a : Bool) → (l || (e || h)) ≡ (e || a) → ((x || l) || (e || h)) ≡ (e || (x || a))
or-low true l e h a i = sym (or-true e)
or-low false l e h a i = i

or-same : (l e h a : Bool) → (l || (e || h)) ≡ (e || a) → (l || (e || h)) ≡ (e || (e || a))
or-same l true h a i = i
or-same l false h a i = i

or-high : (x l e h a : Bool) → (l || (e || h)) ≡ (e || a) → (l || (e || (x || h))) ≡ (e || (x || a))
or-high true l true h a i = or-true l
or-high true l false h a i = or-true l
or-high false l e h a i = i

members-around : (p pid : ℕ) (ps : List ℕ)
    → (list_any (nat_eq p) (filter (λ q. nat_lt q pid) ps) || (nat_eq p pid || list_any (nat_eq p) (filter (λ q. nat_lt pid q) ps))) ≡ (nat_eq p pid || list_any (nat_eq p) ps)
members-around p pid [] = refl
members-around p pid (q ∷ qs) =
    let before = members-around p pid qs in
    elim (cases_lt q pid) [
      | inl l ↦
          let low : nat_lt q pid ≡ true = grind (arith, nat_tests) in
          let high : nat_lt pid q ≡ false = grind (arith, nat_tests) in
          rw (low, high) (or-low (nat_eq p q) _ (nat_eq p pid) _ (list_any (nat_eq p) qs) before)
      | inr l ↦ elim (cases_eq q pid) [
        | inl same ↦
            let low : nat_lt pid pid ≡ false = grind (arith, nat_tests) in
            rw (same, low) (or-same _ (nat_eq p pid) _ (list_any (nat_eq p) qs) before)
        | inr other ↦
            let low : nat_lt q pid ≡ false = grind (arith, nat_tests) in
            let high : nat_lt pid q ≡ true = grind (arith, nat_tests) in
            rw (low, high) (or-high (nat_eq p q) _ (nat_eq p pid) _ (list_any (nat_eq p) qs) before)
      ]
    ]

and-same : (e f a : Bool) → f ≡ (not e && a) → f ≡ (not e && (e || a))
and-same true f a i = i
and-same false f a i = i

members-others : (p pid : ℕ) (ps : List ℕ) → list_any (nat_eq p) (filter (λ q. not (nat_eq pid q)) ps) ≡ (not (nat_eq p pid) && list_any (nat_eq p) ps)
members-others p pid [] = sym (and-false (not (nat_eq p pid)))
members-others p pid (q ∷ qs) =
    let before = members-others p pid qs in
    elim (cases_eq q pid) [
      | inl same ↦
          let e : nat_eq pid pid ≡ true = grind (arith, nat_tests) in
          rw (same, e) (and-same (nat_eq p pid) _ (list_any (nat_eq p) qs) before)
      | inr other ↦
          let e : nat_eq pid q ≡ false = grind (arith, nat_tests) in
          rw e (elim (cases_eq p q) [
            | inl is ↦
                let x : nat_eq p q ≡ true = grind (arith, nat_tests) in
                let y : nat_eq p pid ≡ false = grind (arith, nat_tests) in
                rw (x, y) refl
            | inr isnt ↦ let x : nat_eq p q ≡ false = grind (arith, nat_tests) in rw x before
          ])
    ]

-- ---- no change where there is none to make

has-tail : (pid p : ℕ) (ps : List ℕ) → nat_eq pid p ≡ false → has_pid pid (p ∷ ps) ≡ true → has_pid pid ps ≡ true
has-tail pid p ps e h = rw e at h

same-with : (pid : ℕ) (ps : List ℕ) → Rising ps → has_pid pid ps ≡ true → filter (λ p. nat_lt p pid) ps ++ pid ∷ filter (λ p. nat_lt pid p) ps ≡ ps
same-with pid [] r h = absurd (cc)
same-with pid (p ∷ ps) r h =
    elim (cases_lt p pid) [
      | inl l ↦
          let low : nat_lt p pid ≡ true = grind (arith, nat_tests) in
          let high : nat_lt pid p ≡ false = grind (arith, nat_tests) in
          let other : nat_eq pid p ≡ false = grind (arith, nat_tests) in
          rw (low, high) (ap (λ qs. p ∷ qs) (same-with pid ps r.1 (has-tail pid p ps other h)))
      | inr l ↦ elim (cases_eq p pid) [
        | inl same ↦
            let above : Above pid ps = rw same at r.0 in
            let low : nat_lt pid pid ≡ false = grind (arith, nat_tests) in
            rw (same, low, lower-none pid ps above, higher-all pid ps above) refl
        | inr other ↦
            let lower : pid < p = omega (arith, l, other) in
            let none : has_pid pid (p ∷ ps) ≡ false = has-none pid (p ∷ ps) (lower, above-less pid p ps lower r.0) in
            absurd (cc)
      ]
    ]

same-without : (pid : ℕ) (ps : List ℕ) → has_pid pid ps ≡ false → filter (λ p. not (nat_eq pid p)) ps ≡ ps
same-without pid [] h = refl
same-without pid (p ∷ ps) h = by_bool (nat_eq pid p) (filter (λ q. not (nat_eq pid q)) (p ∷ ps) ≡ p ∷ ps)
    (λ e. let yes-there : has_pid pid (p ∷ ps) ≡ true = rw e refl in absurd (cc))
    (λ e. let rest : has_pid pid ps ≡ false = rw e at h in rw e (ap (λ qs. p ∷ qs) (same-without pid ps rest)))

-- ---- the law

pub is-added : (pid : ℕ) (pids : List ℕ) → IsAscending pids → IsAdded pid pids
unfolding with_pid
is-added pid pids h =
    let r = rising-from pids h in
    record {
      ascending = ascending-from (with_pid pid pids)
          (rising-around pid (filter (λ p. nat_lt p pid) pids) (filter (λ p. nat_lt pid p) pids) (rising-filter _ pids r) (rising-filter _ pids r) (lower-below pid pids) (higher-above pid pids));
      members = λ p. list_any-append (nat_eq p) (filter (λ q. nat_lt q pid) pids) (pid ∷ filter (λ q. nat_lt pid q) pids) ∙ members-around p pid pids;
      same = same-with pid pids r;
    }

pub is-removed : (pid : ℕ) (pids : List ℕ) → IsAscending pids → IsRemoved pid pids
unfolding without_pid
is-removed pid pids h =
    record {
      ascending = ascending-from (without_pid pid pids) (rising-filter _ pids (rising-from pids h));
      members = λ p. members-others p pid pids;
      same = same-without pid pids;
    }

-- ---- numbers of 16 bits stay such

fits-append : (xs ys : List ℕ) → ((i : ℕ) → slice_index xs i < 2 ^ 16) → ((i : ℕ) → slice_index ys i < 2 ^ 16) → (i : ℕ) → slice_index (xs ++ ys) i < 2 ^ 16
fits-append [] ys h k i = k i
fits-append (x ∷ xs) ys h k zero = h 0
fits-append (x ∷ xs) ys h k (suc i) = fits-append xs ys (λ j. h (suc j)) k i

fits-filter : (t : ℕ → Bool) (xs : List ℕ) → ((i : ℕ) → slice_index xs i < 2 ^ 16) → (i : ℕ) → slice_index (filter t xs) i < 2 ^ 16
fits-filter t [] h i = omega arith
fits-filter t (x ∷ xs) h i = by_bool (t x) (slice_index (filter t (x ∷ xs)) i < 2 ^ 16)
    (λ e. rw e (fits-append (x ∷ []) (filter t xs) first (fits-filter t xs (λ j. h (suc j))) i))
    (λ e. rw e (fits-filter t xs (λ j. h (suc j)) i))
  where
    first : (j : ℕ) → slice_index (x ∷ []) j < 2 ^ 16
    first zero = h 0
    first (suc j) = omega arith

pub are-with : (pid : ℕ) (pids : List ℕ) → ArePids pids → pid < 2 ^ 16 → ArePids (with_pid pid pids)
unfolding with_pid
are-with pid pids h l = record {
  ascending = (is-added pid pids h.ascending).ascending;
  fits = fits-append (filter (λ p. nat_lt p pid) pids) (pid ∷ filter (λ p. nat_lt pid p) pids) (fits-filter _ pids h.fits) rest;
}
  where
    rest : (j : ℕ) → slice_index (pid ∷ filter (λ p. nat_lt pid p) pids) j < 2 ^ 16
    rest zero = l
    rest (suc j) = fits-filter (λ p. nat_lt pid p) pids h.fits j

pub are-without : (pid : ℕ) (pids : List ℕ) → ArePids pids → ArePids (without_pid pid pids)
unfolding without_pid
are-without pid pids h = record {
  ascending = (is-removed pid pids h.ascending).ascending;
  fits = fits-filter (λ p. not (nat_eq pid p)) pids h.fits;
}
