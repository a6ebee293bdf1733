-- The passes of one caller of which one is changed: each is still the caller's, of its lock, and has a call left for each that
-- the caller has.
use Rattle.adapter.proofs.Imports.{◌≡◌, ℕ, ◌-◌, ◌<◌, ◌≤◌, Bool, true, false, List, slice_get, slice_index, set, Some, refl, ap, sym, ◌∙◌, subst, arith, length-set, slice_get_within, dite, ℕ_discrete, TableId, View, IsSamePass, Entry, caller_of, Fits, MayCall, MayCallAt, AreSamePasses, OneMore, OneCalls, AllCall, AreMine}
use Rattle.adapter.proofs.Lists.{at_place, set_there, set_elsewhere, one_value}

module _ {N : Type 0} where
  same_self : (p : TableId × View N) → IsSamePass p p
  same_self p = (refl, refl, refl, refl)

  pub same_set : (ps : List (TableId × View N)) (node : ℕ) (p q : TableId × View N) → slice_get ps node ≡ Some p → IsSamePass p q → AreSamePasses ps (set ps node q)
  same_set ps node p q was same = (
    length-set ps node q,
    λ i a b x y. dite (ℕ_discrete i node)
        (λ here.
        let is_a : p ≡ a = one_value ps node p a was (ap (slice_get ps) (sym here) ∙ x) in
        let is_b : q ≡ b = one_value (set ps node q) node q b (set_there ps node q (slice_get_within ps node p was)) (ap (slice_get (set ps node q)) (sym here) ∙ y) in
        subst (λ z. IsSamePass z b) is_a (subst (λ z. IsSamePass p z) is_b same))
        (λ other. let is : a ≡ b = one_value ps i a b x (sym (set_elsewhere ps node i q other) ∙ y) in subst (λ z. IsSamePass a z) is (same_self a)),
  )

  pub same_after : (ps qs : List (TableId × View N)) (node : ℕ) (p q : TableId × View N) → slice_get ps node ≡ Some p → qs ≡ set ps node q → IsSamePass p q → AreSamePasses ps qs
  same_after ps qs node p q was is same = subst (AreSamePasses ps) (sym is) (same_set ps node p q was same)

  pub same_all : (who_of : N → ℕ) (S : ℕ → List N → Type 0) (among : ℕ → Bool) (entry : ℕ → N) (places : List ℕ) (ps qs : List (TableId × View N)) → AllCall who_of S among entry places ps qs → AreSamePasses ps qs
  same_all who_of S among entry places ps qs a = (a.long, λ i p q x y. by_test i p q x y (among i) refl) where
    by_test : (i : ℕ) (p q : TableId × View N) → slice_get ps i ≡ Some p → slice_get qs i ≡ Some q → (b : Bool) → among i ≡ b → IsSamePass p q
    by_test i p q x y true is = (a.each i p q x y is).same
    by_test i p q x y false is = subst (λ (z : TableId × View N). IsSamePass p z) (sym (a.others i p q x y is)) (same_self p)

  pub fits_same : (locks : List TableId) (ps qs : List (TableId × View N)) → Fits locks ps → AreSamePasses ps qs → Fits locks qs
  fits_same locks ps qs f s = (s.0 ∙ f.0, λ i l q x y. let low = slice_get_within qs i q y in let long = s.0 in let p = at_place ps i (omega arith) in (s.1 i p.0 q p.1 y).0 ∙ f.1 i l p.0 x p.1)

module _ (who left : ℕ) where
  pub may_call : (ps : List (TableId × View Entry)) → 0 < left → AreMine who left ps → MayCall ps
  may_call ps some mine i p at = let few = (mine i p at).1 in omega arith

  pub may_call_at : (node : ℕ) (ps : List (TableId × View Entry)) → 0 < left → AreMine who left ps → MayCallAt node ps
  may_call_at node ps some mine p at = let few = (mine node p at).1 in omega arith

  -- one pass is changed, and has at least `more` calls left
  pub mine_set : (more node : ℕ) (ps qs : List (TableId × View Entry)) (p q : TableId × View Entry) → more ≤ left → slice_get ps node ≡ Some p → qs ≡ set ps node q → q.1.number ≡ p.1.number → more ≤ q.1.left → AreMine who left ps → AreMine who more qs
  mine_set more node ps qs p q less was is number few mine i r at =
      let here : slice_get (set ps node q) i ≡ Some r = ap (λ (l : List (TableId × View Entry)). slice_get l i) (sym is) ∙ at in
      dite (ℕ_discrete i node)
      (λ e. let same : q ≡ r = one_value (set ps node q) node q r (set_there ps node q (slice_get_within ps node p was)) (ap (slice_get (set ps node q)) (sym e) ∙ here) in
      subst (λ (z : TableId × View Entry). (z.1.number ≡ who) × (more ≤ z.1.left)) same (number ∙ (mine node p was).0, few))
      (λ n. let m = mine i r (sym (set_elsewhere ps node i q n) ∙ here) in let enough = m.1 in (m.0, omega arith))

  module _ (S : List Entry → Type 0) (node : ℕ) (entry : ℕ → Entry) (place : ℕ) (ps qs : List (TableId × View Entry)) where
    pub mine_after : 0 < left → AreMine who left ps → OneCalls caller_of S node entry place ps qs → AreMine who (left - 1) qs
    mine_after some mine o = let m = (mine node o.first o.was).1 in let fewer = o.more.left in mine_set (left - 1) node ps qs o.first o.then (omega arith) o.was o.is o.more.same.1 (omega arith) mine

    pub by_me : AreMine who left ps → OneCalls caller_of S node entry place ps qs → OneCalls caller_of S node (λ _. entry who) place ps qs
    by_me mine o = record {
      first = o.first;
      then = o.then;
      was = o.was;
      is = o.is;
      more = subst (λ (n : ℕ). OneMore caller_of S (entry n) place o.first o.then) (mine node o.first o.was).0 o.more;
    }

  module _ (S : ℕ → List Entry → Type 0) (among : ℕ → Bool) (entry : ℕ → Entry) (places : List ℕ) (ps qs : List (TableId × View Entry)) where
    pub all_mine : 0 < left → AreMine who left ps → AllCall caller_of S among entry places ps qs → AreMine who (left - 1) qs
    all_mine some mine a i q at = let low = slice_get_within qs i q at in let long = a.long in let p = at_place ps i (omega arith) in by_test p.0 p.1 (among i) refl where
      by_test : (p : TableId × View Entry) → slice_get ps i ≡ Some p → (b : Bool) → among i ≡ b → (q.1.number ≡ who) × (left - 1 ≤ q.1.left)
      by_test p was true is = let o = a.each i p q was at is in let m = mine i p was in let few = m.1 in let fewer = o.left in (o.same.1 ∙ m.0, omega arith)
      by_test p was false is =
          let m = mine i p was in let few = m.1 in let less : left - 1 ≤ p.1.left = omega arith in
          subst (λ (z : TableId × View Entry). (z.1.number ≡ who) × (left - 1 ≤ z.1.left)) (sym (a.others i p q was at is)) (m.0, less)

    pub all_by_me : AreMine who left ps → AllCall caller_of S among entry places ps qs → AllCall caller_of S among (λ _. entry who) places ps qs
    all_by_me mine a = record { long = a.long; each = λ i p q x y is. subst (λ (n : ℕ). OneMore caller_of (S i) (entry n) (slice_index places i) p q) (mine i p x).0 (a.each i p q x y is); others = a.others }
