-- All callers' passes, from what is said of the callers.
use Rattle.adapter.proofs.Imports.{◌≡◌, ℕ, zero, suc, ◌<◌, List, [], ◌∷◌, ◌++◌, length, slice_get, Option, Some, None, inl, refl, ap, sym, ◌∙◌, subst, arith, map-append, option_to_list, slice_get_within, TableId, View, Has, Entry, IsSamePass, Fits, AreSamePasses, SomeHas, AreAll, AreAllRows, column, Caller, IsSameCaller, SomeIs, AreAllCallers, rows_of}
use Rattle.adapter.proofs.Lists.{at_place}
use Rattle.adapter.proofs.Mine.{fits_same}

caller_at : (cs : List Caller) (k : ℕ) (row : List (TableId × View Entry)) → slice_get (rows_of cs) k ≡ Some row → (c : Caller) × (slice_get cs k ≡ Some c) × (c.passes ≡ row)
caller_at [] k row e = absurd (cc e)
caller_at (c ∷ cs) zero row e = (c, refl, cc e)
caller_at (c ∷ cs) (suc k) row e = caller_at cs k row e

-- what stands in a column is the pass of some caller
pub in_column : (i : ℕ) (cs : List Caller) (j : ℕ) (p : TableId × View Entry) → slice_get (column i (rows_of cs)) j ≡ Some p → (k : ℕ) × (c : Caller) × (slice_get cs k ≡ Some c) × (slice_get c.passes i ≡ Some p)
in_column i [] j p e = absurd (cc e)
in_column i (c ∷ cs) j p e = from (λ n d. in_column i cs n p d) (slice_get c.passes i) refl j e where
  from : ((n : ℕ) → slice_get (column i (rows_of cs)) n ≡ Some p → (k : ℕ) × (d : Caller) × (slice_get cs k ≡ Some d) × (slice_get d.passes i ≡ Some p))
      → (o : Option (TableId × View Entry)) → slice_get c.passes i ≡ o → (j : ℕ) → slice_get (option_to_list o ++ column i (rows_of cs)) j ≡ Some p → (k : ℕ) × (d : Caller) × (slice_get (c ∷ cs) k ≡ Some d) × (slice_get d.passes i ≡ Some p)
  from rest None is j e = let r = rest j e in (suc r.0, r.1, r.2, r.3)
  from rest (Some q) is zero e = (0, c, refl, is ∙ e)
  from rest (Some q) is (suc j) e = let r = rest j e in (suc r.0, r.1, r.2, r.3)

-- and each caller's pass stands there
pub of_column : (i : ℕ) (cs : List Caller) (k : ℕ) (c : Caller) (p : TableId × View Entry) → slice_get cs k ≡ Some c → slice_get c.passes i ≡ Some p → (j : ℕ) × (slice_get (column i (rows_of cs)) j ≡ Some p)
of_column i [] k c p at is = absurd (cc at)
of_column i (d ∷ cs) zero c p at is = let same : d ≡ c = cc at in (0, ap (λ o. slice_get (option_to_list o ++ column i (rows_of cs)) 0) (subst (λ (z : Caller). slice_get z.passes i ≡ Some p) (sym same) is))
of_column i (d ∷ cs) (suc k) c p at is = behind (slice_get d.passes i) (of_column i cs k c p at is) where
  behind : (o : Option (TableId × View Entry)) → (j : ℕ) × (slice_get (column i (rows_of cs)) j ≡ Some p) → (j : ℕ) × (slice_get (option_to_list o ++ column i (rows_of cs)) j ≡ Some p)
  behind None r = r
  behind (Some q) r = (suc r.0, r.1)

module _ (locks : List TableId) (cs : List Caller) (a : AreAllCallers locks cs) where
  some_has : (i w : ℕ) (l : TableId) → slice_get locks i ≡ Some l → SomeIs cs w → SomeHas (column i (rows_of cs)) w
  some_has i w l at s =
      let f = a.fits s.0 s.1 s.2 in let low = slice_get_within locks i l at in let long = f.0 in let p = at_place s.1.passes i (omega arith) in
      let j = of_column i cs s.0 s.1 p.0 s.2 p.1 in
      (j.0, p.0, j.1, subst (λ (ns : List ℕ). Has ns w) (sym (a.own s.0 s.1 s.2 i p.0 p.1)) (inl s.3))

  all_there : (i : ℕ) (l : TableId) → slice_get locks i ≡ Some l → AreAll l (column i (rows_of cs))
  all_there i l at j p e = let s = in_column i cs j p e in ((a.fits s.0 s.1 s.2).1 i l p at s.3, λ w below. some_has i w l at (a.all s.0 s.1 s.2 i p s.3 w below))

  pub all_rows : AreAllRows locks (rows_of cs)
  all_rows = record { fit = λ k row e. let c = caller_at cs k row e in subst (Fits locks) c.2 (a.fits k c.0 c.1); all = all_there }

pub rows_end : (cs : List Caller) (c : Caller) (row : List (TableId × View Entry)) → row ≡ c.passes → rows_of (cs ++ c ∷ []) ≡ rows_of cs ++ row ∷ []
rows_end cs c row e = map-append (λ (x : Caller). x.passes) cs (c ∷ []) ∙ ap (λ (z : List (TableId × View Entry)). rows_of cs ++ z ∷ []) (sym e)

-- ------ callers that have made calls are still all callers

same_passes : (ps qs rs : List (TableId × View Entry)) → AreSamePasses ps qs → AreSamePasses qs rs → AreSamePasses ps rs
same_passes ps qs rs a b = (
  b.0 ∙ a.0,
  λ i p r x z.
      let low = slice_get_within ps i p x in let long = a.0 in let q = at_place qs i (omega arith) in let f = a.1 i p q.0 x q.1 in let g = b.1 i q.0 r q.1 z in
      (g.0 ∙ f.0, g.1 ∙ f.1, g.2 ∙ f.2, g.3 ∙ f.3),
)

pub same_trans : (a b c : Caller) → IsSameCaller a b → IsSameCaller b c → IsSameCaller a c
same_trans a b c s t = (t.0 ∙ s.0, same_passes a.passes b.passes c.passes s.1 t.1)

-- these are the same callers, in the same order
abbrev pub AreSameCallers : List Caller → List Caller → Type 0
AreSameCallers old new = (length new ≡ length old) × ((k : ℕ) (c d : Caller) → slice_get old k ≡ Some c → slice_get new k ≡ Some d → IsSameCaller c d)

pub still_all : (locks : List TableId) (old new : List Caller) → AreAllCallers locks old → AreSameCallers old new → AreAllCallers locks new
still_all locks old new a s = record {
  fits = λ k d at. let b = before k d at in fits_same locks b.0.passes d.passes (a.fits k b.0 b.1) b.2.1;
  own = λ k d at i q is. let b = before k d at in let p = pass_before b.0 d b.2 i q is in p.2.2 ∙ a.own k b.0 b.1 i p.0 p.1 ∙ ap (λ (n : ℕ). n ∷ []) (sym b.2.0);
  all = λ k d at i q is w below. let b = before k d at in let p = pass_before b.0 d b.2 i q is in let m = a.all k b.0 b.1 i p.0 p.1 w (subst (λ (n : ℕ). w < n) p.2.3 below) in
      let low = slice_get_within old m.0 m.1 m.2 in let long = s.0 in let now = at_place new m.0 (omega arith) in (m.0, now.0, now.1, (s.1 m.0 m.1 now.0 m.2 now.1).0 ∙ m.3);
} where
  before : (k : ℕ) (d : Caller) → slice_get new k ≡ Some d → (c : Caller) × (slice_get old k ≡ Some c) × IsSameCaller c d
  before k d at = let low = slice_get_within new k d at in let long = s.0 in let c = at_place old k (omega arith) in (c.0, c.1, s.1 k c.0 d c.1 at)

  pass_before : (c d : Caller) → IsSameCaller c d → (i : ℕ) (q : TableId × View Entry) → slice_get d.passes i ≡ Some q → (p : TableId × View Entry) × (slice_get c.passes i ≡ Some p) × IsSamePass p q
  pass_before c d t i q is = let low = slice_get_within d.passes i q is in let long = t.1.0 in let p = at_place c.passes i (omega arith) in (p.0, p.1, t.1.1 i p.0 q p.1 is)
