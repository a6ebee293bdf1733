-- The feeder's calls pass the packets exactly where the test says so.
use Rattle.report_check.proofs.Imports.{◌≡◌, ◌≤◌, ◌+◌, refl, sym, ap, ◌∙◌, ℕ, suc, List, [], ◌∷◌, Bool, true, false, nat_eq, map, sum, arith, nat_tests, All-head, All-tail, All-nil, All-cons, sum_by-cons, Option, Some, None, nat_le, ◌&&◌, if◌then◌else◌, All, Frontend, Act, PassAct, passing, EndAct, Batch, Step, feeding, passed_behind, is_end, are_none, or_else, feeds, and_parts}
use Rattle.std.proofs.Common.{nat_lt}

abbrev pub Fits : Batch → Type 0
Fits b = (1 ≤ b.size) × (b.size ≤ 64)

abbrev pub size_of : Batch → ℕ
size_of b = b.size

-- the calls are that these batches pass, and then End
pub record IsFeedingFrom (packets first step : ℕ) (ss : List Step) : Type 0 where
  pub batches : List Batch
  pub sizes : All Fits batches
  pub whole : first + sum (map size_of batches) ≡ packets
  pub same : ss ≡ feeding first step batches

-- the next packets pass by this call
record IsNextPass (packets first next : ℕ) (act : Act) : Type 0 where
  count : ℕ
  now : ℕ
  is : act ≡ passing Frontend first count now
  fits : (1 ≤ count) × (count ≤ 64)
  sum_is : next ≡ first + count

pass_by : (packets first next from count now : ℕ) → (b : Bool) → (nat_eq from first && (nat_lt 0 count && (nat_le count 64 && nat_le (first + count) packets))) ≡ b
    → (if b then Some (first + count) else None) ≡ Some next → IsNextPass packets first next (passing Frontend from count now)
pass_by packets first next from count now false e s = absurd (cc)
pass_by packets first next from count now true e s =
    let a = and_parts (nat_eq from first) (nat_lt 0 count && (nat_le count 64 && nat_le (first + count) packets)) e in
    let b = and_parts (nat_lt 0 count) (nat_le count 64 && nat_le (first + count) packets) a.1 in
    let c = and_parts (nat_le count 64) (nat_le (first + count) packets) b.1 in
    let same : from ≡ first = grind (arith, nat_tests, a.0) in
    let some : 1 ≤ count = grind (arith, nat_tests, b.0) in
    let few : count ≤ 64 = grind (arith, nat_tests, c.0) in
    let sum : first + count ≡ next = cc in
    record {
      count = count;
      now = now;
      is = ap (λ (f : ℕ). passing Frontend f count now) same;
      fits = (some, few);
      sum_is = sym sum;
    }

next_pass : (packets first next : ℕ) (act : Act) → passed_behind packets first act ≡ Some next → IsNextPass packets first next act
next_pass packets first next (PassAct Frontend batch now) s =
    pass_by packets first next batch.first batch.count now
    (nat_eq batch.first first && (nat_lt 0 batch.count && (nat_le batch.count 64 && nat_le (first + batch.count) packets))) refl s
next_pass packets first next _ s = absurd (cc)

end_act : (act : Act) → is_end act ≡ true → act ≡ EndAct
end_act EndAct e = refl
end_act _ e = absurd (cc)

no_more : (ss : List Step) → are_none ss ≡ true → ss ≡ []
no_more [] e = refl
no_more (s ∷ ss) e = absurd (cc)

same_step : (s : Step) (step : ℕ) (act : Act) → s.step ≡ step → s.act ≡ act → s ≡ record { step = step; act = act }
same_step s step act a b = rw (← a, ← b) refl

feeds_one : (packets first step : ℕ) (s : Step) (ss : List Step) → s.step ≡ step → ((next : ℕ) → feeds packets next (suc step) ss ≡ true → IsFeedingFrom packets next (suc step) ss)
    → (o : Option ℕ) → passed_behind packets first s.act ≡ o
    → or_else o (is_end s.act && (nat_eq first packets && are_none ss)) (λ next. feeds packets next (suc step) ss) ≡ true → IsFeedingFrom packets first step (s ∷ ss)
feeds_one packets first step s ss number later (Some next) is t =
    let p = next_pass packets first next s.act is in
    let l = later next t in
    let b : Batch = record { size = p.count; moment = p.now } in
    let front : s ≡ record { step = step; act = passing Frontend first p.count p.now } = same_step s step (passing Frontend first p.count p.now) number p.is in
    let behind : ss ≡ feeding (first + p.count) (suc step) l.batches = l.same ∙ ap (λ (f : ℕ). feeding f (suc step) l.batches) p.sum_is in
    let all : sum (map size_of (b ∷ l.batches)) ≡ p.count + sum (map size_of l.batches) = sum_by-cons (λ (x : ℕ). x) p.count (map size_of l.batches) in
    record {
      batches = b ∷ l.batches;
      sizes = All-cons Fits b l.batches p.fits l.sizes;
      whole = omega (arith, all, l.whole, p.sum_is);
      same = rw (← front, ← behind) refl;
    }
feeds_one packets first step s ss number later None is t =
    let a = and_parts (is_end s.act) (nat_eq first packets && are_none ss) t in
    let b = and_parts (nat_eq first packets) (are_none ss) a.1 in
    let full : first ≡ packets = grind (arith, nat_tests, b.0) in
    let front : s ≡ record { step = step; act = EndAct } = same_step s step EndAct number (end_act s.act a.0) in
    let none : ss ≡ [] = no_more ss b.1 in
    record {
      batches = [];
      sizes = All-nil Fits;
      whole = omega (arith, full);
      same = rw (← front, none) refl;
    }

pub feeds_is : (packets first step : ℕ) (ss : List Step) → feeds packets first step ss ≡ true → IsFeedingFrom packets first step ss
feeds_is packets first step [] e = absurd (cc)
feeds_is packets first step (s ∷ ss) e =
    let parts = and_parts (nat_eq s.step step) (or_else (passed_behind packets first s.act) (is_end s.act && (nat_eq first packets && are_none ss)) (λ next. feeds packets next (suc step) ss)) e in
    let number : s.step ≡ step = grind (arith, nat_tests, parts.0) in
    feeds_one packets first step s ss number (λ next t. feeds_is packets next (suc step) ss t) (passed_behind packets first s.act) refl parts.1

pub is_feeds : (packets first step : ℕ) (bs : List Batch) → All Fits bs → first + sum (map size_of bs) ≡ packets → feeds packets first step (feeding first step bs) ≡ true
is_feeds packets first step [] sizes whole =
    let number : nat_eq step step ≡ true = grind (arith, nat_tests) in
    let full : nat_eq first packets ≡ true = grind (arith, nat_tests, whole) in
    rw (number, full) refl
is_feeds packets first step (b ∷ bs) sizes whole =
    let fits = All-head Fits b bs sizes in
    let all : sum (map size_of (b ∷ bs)) ≡ b.size + sum (map size_of bs) = sum_by-cons (λ (x : ℕ). x) b.size (map size_of bs) in
    let rest : first + b.size + sum (map size_of bs) ≡ packets = omega (arith, all, whole) in
    let number : nat_eq step step ≡ true = grind (arith, nat_tests) in
    let same : nat_eq first first ≡ true = grind (arith, nat_tests) in
    let some : nat_lt 0 b.size ≡ true = grind (arith, nat_tests, fits.0) in
    let few : nat_le b.size 64 ≡ true = grind (arith, nat_tests, fits.1) in
    let low : first + b.size ≤ packets = omega (arith, rest) in
    let within : nat_le (first + b.size) packets ≡ true = grind (arith, nat_tests, low) in
    rw (number, same, some, few, within) (is_feeds packets (first + b.size) (suc step) bs (All-tail Fits b bs sizes) rest)
