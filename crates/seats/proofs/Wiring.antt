-- Reads and writes of a line, one behind another.
use Rattle.seats.proofs.Imports.{◌≡◌, ◌+◌, ◌<◌, ◌≤◌, inl, inr, ℕ, Bool, true, false, List, [], ◌++◌, length, take, Result, Ok, Err, is_ok, OnOk, OnErr, ap, sym, ◌∙◌, subst, arith, length-append, length-take-le, Appends-trans, Consumes-kept, Consumes, IsAtEnd, SourceEnd, SinkEnd, RunsOut, Writes, BreaksOff}
use Rattle.std.proofs.Common.{append_assoc}
use Rattle.std.specs.Prelude.{Option, Some, None}
use Rattle.std.specs.Io.KnownBytes.{Keeps}

-- ------ reads

-- nothing was left
pub ends_short : (most n : ℕ) (a b c : SourceEnd) (into : List ℕ) → n ≤ length into → n < most → Consumes a.left b.left (take n into) → b.faults ≡ a.faults
    → Keeps b.left c.left → IsAtEnd c.left → c.faults ≡ b.faults → RunsOut most a c
ends_short most n a b c into within few taken steady kept end same = record {
  bytes = take n into;
  few = let long = length-take-le n into within in omega (arith, long, few);
  taken = Consumes-kept a.left b.left c.left (take n into) taken kept;
  stopped = inl (same ∙ steady, end);
}

-- a read failed
pub fails_short : (most n : ℕ) (a b c : SourceEnd) (into : List ℕ) → n ≤ length into → n < most → Consumes a.left b.left (take n into) → b.faults ≡ a.faults
    → Keeps b.left c.left → c.faults ≡ b.faults + 1 → RunsOut most a c
fails_short most n a b c into within few taken steady kept failed = record {
  bytes = take n into;
  few = let long = length-take-le n into within in omega (arith, long, few);
  taken = Consumes-kept a.left b.left c.left (take n into) taken kept;
  stopped = inr (failed ∙ ap (λ n. n + 1) steady);
}

-- what was taken by a read that gave nothing is kept
pub keeps_all : (a b : Option (List ℕ)) → Consumes a b [] → Keeps a b
keeps_all None b taken = tt
keeps_all (Some xs) None taken = absurd taken
keeps_all (Some xs) (Some ys) taken = sym taken

-- fewer than so many, by another name of the number
pub runs_out : (n m : ℕ) (a b : SourceEnd) → RunsOut n a b → n ≡ m → RunsOut m a b
runs_out n m a b out same = subst (λ (k : ℕ). RunsOut k a b) same out

-- ------ writes

-- both were written
pub writes_both : (a b c : SinkEnd) (h d : List ℕ) → Writes a b h → Writes b c d → Writes a c (h ++ d)
writes_both a b c h d x y = record { written = Appends-trans a.written b.written c.written h d x.written y.written; steady = y.steady ∙ x.steady }

-- the first wasn't
pub breaks_first : (a b : SinkEnd) (h d : List ℕ) → BreaksOff a b h → BreaksOff a b (h ++ d)
breaks_first a b h d x = record {
  front = x.front;
  lost = x.lost ++ d;
  whole = ap (λ (l : List ℕ). l ++ d) x.whole ∙ append_assoc x.front x.lost d;
  some = let long = length-append x.lost d in let some = x.some in omega (arith, long, some);
  written = x.written;
  failed = x.failed;
}

-- the second wasn't
pub breaks_second : (a b c : SinkEnd) (h d : List ℕ) → Writes a b h → BreaksOff b c d → BreaksOff a c (h ++ d)
breaks_second a b c h d x y = record {
  front = h ++ y.front;
  lost = y.lost;
  whole = ap (λ (l : List ℕ). h ++ l) y.whole ∙ sym (append_assoc h y.front y.lost);
  some = y.some;
  written = Appends-trans a.written b.written c.written h y.front x.written y.written;
  failed = y.failed ∙ ap (λ n. n + 1) x.steady;
}

-- a head, and bytes behind it
module _ {E : Type 0} (r : Result (Unit {0}) E) (a b c : SinkEnd) (h d head bytes : List ℕ) (is : h ≡ head) (are : d ≡ bytes) where
  pub told_whole : Writes a b h → OnOk r (Writes b c d) → OnOk r (Writes a c (head ++ bytes))
  told_whole first o = by r o where
    by : (s : Result (Unit {0}) E) → OnOk s (Writes b c d) → OnOk s (Writes a c (head ++ bytes))
    by (Ok x) more = subst (λ (l : List ℕ). Writes a c (l ++ bytes)) is (subst (λ (l : List ℕ). Writes a c (h ++ l)) are (writes_both a b c h d first more))
    by (Err e) more = tt

  pub told_off : Writes a b h → OnErr r (BreaksOff b c d) → OnErr r (BreaksOff a c (head ++ bytes))
  told_off first o = by r o where
    by : (s : Result (Unit {0}) E) → OnErr s (BreaksOff b c d) → OnErr s (BreaksOff a c (head ++ bytes))
    by (Ok x) more = tt
    by (Err e) more = subst (λ (l : List ℕ). BreaksOff a c (l ++ bytes)) is (subst (λ (l : List ℕ). BreaksOff a c (h ++ l)) are (breaks_second a b c h d first more))

-- not even the head
pub told_none : {A E : Type 0} (r : Result A E) (a b : SinkEnd) (h head bytes : List ℕ) → h ≡ head → BreaksOff a b h → OnErr r (BreaksOff a b (head ++ bytes))
told_none (Ok x) a b h head bytes is off = tt
told_none (Err e) a b h head bytes is off = subst (λ (l : List ℕ). BreaksOff a b (l ++ bytes)) is (breaks_first a b h bytes off)

-- where it has succeeded, and where not
pub by_ok : {A E : Type 0} (r : Result A E) (P : Type 0) (b : Bool) → b ≡ is_ok r → OnOk r P → b ≡ true → P
by_ok (Ok x) P b is ok yea = ok
by_ok (Err e) P b is ok yea = absurd (let both : false ≡ true = sym is ∙ yea in cc)

pub by_err : {A E : Type 0} (r : Result A E) (P : Type 0) (b : Bool) → b ≡ is_ok r → OnErr r P → b ≡ false → P
by_err (Ok x) P b is err nay = absurd (let both : true ≡ false = sym is ∙ nay in cc)
by_err (Err e) P b is err nay = err
