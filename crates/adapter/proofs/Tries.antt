-- What a try at a lock says of its pass, in the two records.
use Rattle.adapter.proofs.Imports.{◌≡◌, ℕ, ◌+◌, ◌-◌, ◌<◌, ◌≤◌, ◌^◌, List, [], ◌∷◌, ◌++◌, length, Some, true, false, sym, subst, arith, Result, Ok, Err, IfOk, IfErr, is_ok, IsPrefix, TableId, Held, View, KnowsItsCalls, IsSamePass, Entry, caller_of, AreSamePasses, OneMore, OneCalls, OneMiss, OneMisses, AreMine}
use Rattle.adapter.proofs.Mine.{mine_after, mine_set, by_me, same_after}

module _ {C A N : Type 0} (who_of : N → ℕ) (stood : List N → Type 0) (entry : (ℕ × A) → N) (cost : (ℕ × A) → List N → Type 0) where
  pub tried_more : (r : Result (ℕ × A) (C × Held)) (p q : TableId × View N)
      → IfOk r (λ x. (before : List N) × IsPrefix p.1.seen before × (q.1.seen ≡ before ++ entry x ∷ []) × (x.0 ≡ length before) × cost x before)
      → IfOk r (λ x. x.0 < 2 ^ 50)
      → IfOk r (λ x. (q.1.own ≡ p.1.own ++ (p.1.number, x.0) ∷ []) × (q.1.left + 1 ≡ p.1.left) × (q.1.miss ≡ p.1.miss))
      → KnowsItsCalls who_of q.1 → IsSamePass p q → stood q.1.seen → IfOk r (λ x. OneMore who_of stood (entry x) x.0 p q)
  tried_more (Ok x) p q e few told calls same meant = record { before = e.0; seen = e.1; now = e.2; at = e.3; few = few; told = told.0; calls = calls; same = same; left = told.1; miss = told.2; meant = meant }
  tried_more (Err x) p q e few told calls same meant = tt

module _ {C A N : Type 0} (who_of : N → ℕ) (stood : List N → Type 0) (back : C → Type 0) (cost : Type 0) where
  pub tried_miss : (r : Result (ℕ × A) (C × Held)) (p q : TableId × View N)
      → q.1.looks ≡ p.1.looks + 1
      → IfErr r (λ e. (e.1.served < e.1.tickets) × (e.1.tickets ≤ 2 ^ 50) × (e.1.served ≡ length q.1.seen) × IsPrefix p.1.seen q.1.seen)
      → IfErr r (λ e. q.1.miss ≡ Some record { looks = q.1.looks; served = e.1.served; found = e.1.tickets })
      → IfErr r (λ e. back e.0 × (q.1.own ≡ p.1.own) × (q.1.left ≡ p.1.left) × cost)
      → KnowsItsCalls who_of q.1 → IsSamePass p q → stood q.1.seen → IfErr r (λ e. OneMiss who_of stood e.1 p q)
  tried_miss (Ok x) p q looks held miss handed calls same meant = tt
  tried_miss (Err x) p q looks held miss handed calls same meant = record { seen = held.3; served = held.2; behind = held.0; few = held.1; looks = looks; miss = miss; own = handed.1; calls = calls; same = same; left = handed.2; meant = meant }

-- a try of one caller, whether a call was made or not
module _ {C A : Type 0} (who left : ℕ) (S : List Entry → Type 0) (node : ℕ) (entry : (ℕ × A) → ℕ → Entry) (ps qs : List (TableId × View Entry)) where
  pub same_tried : (r : Result (ℕ × A) (C × Held)) → IfOk r (λ x. OneCalls caller_of S node (entry x) x.0 ps qs) → IfErr r (λ e. OneMisses caller_of S node e.1 ps qs) → AreSamePasses ps qs
  same_tried (Ok x) o m = same_after ps qs node o.first o.then o.was o.is o.more.same
  same_tried (Err x) o m = same_after ps qs node m.first m.then m.was m.is m.missed.same

  pub mine_called : (r : Result (ℕ × A) (C × Held)) → is_ok r ≡ true → 0 < left → AreMine who left ps → IfOk r (λ x. OneCalls caller_of S node (entry x) x.0 ps qs) → AreMine who (left - 1) qs
  mine_called (Ok x) is some mine o = mine_after who left S node (entry x) x.0 ps qs some mine o
  mine_called (Err x) is some mine o = absurd (cc is)

  pub mine_missed : (r : Result (ℕ × A) (C × Held)) → is_ok r ≡ false → AreMine who left ps → IfErr r (λ e. OneMisses caller_of S node e.1 ps qs) → AreMine who left qs
  mine_missed (Ok x) is mine m = absurd (cc is)
  mine_missed (Err x) is mine m = mine_set who left left node ps qs m.first m.then (omega arith) m.was m.is m.missed.same.1 (subst (λ (n : ℕ). left ≤ n) (sym m.missed.left) (mine node m.first m.was).1) mine

  pub called_by_me : (r : Result (ℕ × A) (C × Held)) → AreMine who left ps → IfOk r (λ x. OneCalls caller_of S node (entry x) x.0 ps qs) → IfOk r (λ x. OneCalls caller_of S node (λ _. entry x who) x.0 ps qs)
  called_by_me (Ok x) mine o = by_me who left S node (entry x) x.0 ps qs mine o
  called_by_me (Err x) mine o = tt
