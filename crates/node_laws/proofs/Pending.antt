-- What is answered in a legal history is before the edge, and an overflow that is pending stands behind it, so not all bytes are
-- answered then.
use Rattle.node_laws.proofs.Imports.{ℕ, ◌+◌, ◌-◌, ◌<◌, ◌≤◌, ◌≡◌, refl, sym, ◌∙◌, ap, subst, Bool, true, false, List, [], ◌∷◌, ◌++◌, Option, Some, None, length, arith, length-append, if◌then◌else◌, nat_lt, option_or, MatchOption, concat, nat_tests, Response, is_accepted, Entry, History, event, Since, after_of, Rules, Misfit, misfit, keeps, edge_of, answered_in, is_overflow, facts, with_call, May, IsLegalFor, Fits, OverflowNamesAByte, answered_more, total_more, over_more, over_cleared, edge_cleared, more, Goes, gone, anew, onward, Keeps}
use Rattle.dmx_calls.specs.Ledger.{joined, total, answered, over, edge}
use Rattle.node_laws.proofs.Fitting.{allowed_response, response_fits, answers_unread, answers_within}

none_some : {o : Option Misfit} (x : Misfit) → o ≡ None → o ≡ Some x → ⊥
none_some x none some = subst (λ o. MatchOption o (Unit {0}) (λ y. ⊥)) (sym none ∙ some) tt

-- where an item that doesn't fit stands: it has bytes
misfit_placed : (cap number t a : ℕ) (items : List (List ℕ)) (x : Misfit) → misfit cap number t a items ≡ Some x → (t ≤ x.place) × (x.place < t + length (concat items))
misfit_placed cap number t a [] x is = absurd (none_some x refl is)
misfit_placed cap number t a (item ∷ items) x is = go (nat_lt (cap - (t - a)) (length item)) refl (λ later. misfit_placed cap (number + 1) (t + length item) a items x later) is where
  go : (b : Bool) → nat_lt (cap - (t - a)) (length item) ≡ b → (misfit cap (number + 1) (t + length item) a items ≡ Some x → (t + length item ≤ x.place) × (x.place < t + length item + length (concat items)))
      → (if b then Some (record { item = number; place = t; need = length item; room = cap - (t - a) }) else misfit cap (number + 1) (t + length item) a items) ≡ Some x
      → (t ≤ x.place) × (x.place < t + length (concat (item ∷ items)))
  go true yea deeper is =
      let long : cap - (t - a) < length item = grind (arith, nat_tests, yea) in
      let same : record { item = number; place = t; need = length item; room = cap - (t - a) } ≡ x = cc in
      let here : t ≡ x.place = ap (λ (y : Misfit). y.place) same in
      (omega (arith, here), omega (arith, here, long, length-append item (concat items)))
  go false nay deeper is =
      let d = deeper is in
      (omega (arith, d.0), omega (arith, d.1, length-append item (concat items)))

-- an item that didn't fit stands behind what is answered, and has bytes
abbrev pub IsPlaced : Option Misfit → (answered total : ℕ) → Type 0
IsPlaced None answered total = Unit {0}
IsPlaced (Some x) answered total = (answered ≤ x.place) × (x.place < total)

-- what is answered is before the edge, and the edge before the end
edge_within : (k : Bool) (o : Option Misfit) (a t : ℕ) → a ≤ edge_of k o t a → IsPlaced o a t → edge_of k o t a ≤ t
edge_within k None a t le placed = omega arith
edge_within true (Some x) a t le placed = omega (arith, placed.1)
edge_within false (Some x) a t le placed = omega (arith, placed.0, placed.1)

module _ (k : Bool) (given a t more : ℕ) where
  -- so many bytes are given, none of them behind the edge, and so many arrive
  le_next : (o m : Option Misfit) → given + a ≤ edge_of k o t a → IsPlaced m t (t + more) → given + a ≤ edge_of k (option_or o m) (t + more) (given + a)
  le_next None None le placed = omega (arith, le)
  le_next None (Some x) le placed = by_keep k where
    by_keep : (b : Bool) → given + a ≤ (if b then x.place else given + a)
    by_keep true = omega (arith, le, placed.0)
    by_keep false = omega arith
  le_next (Some y) m le placed = by_keep k le where
    by_keep : (b : Bool) → given + a ≤ (if b then y.place else a) → given + a ≤ (if b then y.place else given + a)
    by_keep true le = le
    by_keep false le = omega arith

  placed_next : (o m : Option Misfit) → given + a ≤ edge_of k o t a → IsPlaced o a t → IsPlaced m t (t + more) → IsPlaced (option_or o m) (given + a) (t + more)
  placed_next None None le before placed = tt
  placed_next None (Some x) le before placed = (omega (arith, le, placed.0), placed.1)
  placed_next (Some y) m le before placed = by_keep k le where
    by_keep : (b : Bool) → given + a ≤ (if b then y.place else a) → (given + a ≤ y.place) × (y.place < t + more)
    by_keep true le = (le, omega (arith, before.1))
    by_keep false le = (omega (arith, le, before.0), omega (arith, before.1))

misfits_placed : (cap number t a : ℕ) (items : List (List ℕ)) (o : Option Misfit) → misfit cap number t a items ≡ o → IsPlaced o t (t + length (concat items))
misfits_placed cap number t a items None is = tt
misfits_placed cap number t a items (Some x) is = misfit_placed cap number t a items x is

module _ (node : Rules) where
  pub record Pending (h : History) : Type 0 where
    pub le : answered node h ≤ edge node h
    pub placed : IsPlaced (over node h) (answered node h) (total node h)

  pub within : (h : History) → Pending h → edge node h ≤ total node h
  unfolding edge
  within h p = edge_within (keeps (node.params h)) (over node h) (answered node h) (total node h) p.le p.placed

  module _ (keeps_capture : Keeps node) where
    fresh_pending : (h : History) → after_of (node.capture h) ≡ [] → Pending h
    unfolding answered over edge
    fresh_pending h is = record { le = rw is (omega arith); placed = rw is tt }

    module _ (e : Entry) (h : History) (s : Since) (runs : node.capture h ≡ Some s) (longer : node.capture (e ∷ h) ≡ Some (more (event e h) s)) (set : node.params (e ∷ h) ≡ node.params h)
        (new : List (List ℕ)) (arrive : node.items (e ∷ h) ≡ node.items h ++ new) where
      -- an overflow is told
      told_pending : is_overflow (event e h) ≡ true → answered_in (event e h) + answered node h ≤ total node h → Pending (e ∷ h)
      told_pending loud fits = record {
        le = rw (edge_cleared node e h s runs longer loud) (omega (arith, answered_more node e h s runs longer, total_more node e h s runs longer new arrive, fits));
        placed = rw (over_cleared node e h s runs longer loud) tt;
      }

      quiet_pending : is_overflow (event e h) ≡ false → Pending h → answered_in (event e h) + answered node h ≤ edge node h → Pending (e ∷ h)
      unfolding edge
      quiet_pending quiet p fits =
          let cap : ℕ = node.size h - 1 in
          let m : Option Misfit = misfit cap (length (node.items h)) (total node h) (answered node h) new in
          let here : IsPlaced m (total node h) (total node h + length (concat new)) = misfits_placed cap (length (node.items h)) (total node h) (answered node h) new m refl in
          record {
            le = rw (set, over_more node e h s runs longer new arrive quiet, answered_more node e h s runs longer, total_more node e h s runs longer new arrive)
                (le_next (keeps (node.params h)) (answered_in (event e h)) (answered node h) (total node h) (length (concat new)) (over node h) m fits here);
            placed = rw (over_more node e h s runs longer new arrive quiet, answered_more node e h s runs longer, total_more node e h s runs longer new arrive)
                (placed_next (keeps (node.params h)) (answered_in (event e h)) (answered node h) (total node h) (length (concat new)) (over node h) m fits p.placed here);
          }

      next_by : Pending h → Fits node (joined node h) h e.response → (b : Bool) → is_overflow (event e h) ≡ b → Pending (e ∷ h)
      next_by p fits true loud = told_pending loud (answers_unread node h e.who e.invocation e.response p.le (within h p) fits)
      next_by p fits false quiet = quiet_pending quiet p (answers_within node h e.who e.invocation e.response p.le fits quiet)

    next_pending : (e : Entry) (h : History) → Goes node e h → Pending h → Fits node (joined node h) h e.response → Pending (e ∷ h)
    next_pending e h (gone is) p fits = fresh_pending (e ∷ h) (ap after_of is)
    next_pending e h (anew is) p fits = fresh_pending (e ∷ h) (ap after_of is)
    next_pending e h (onward s runs longer set new arrive) p fits = next_by e h s runs longer set new arrive p fits (is_overflow (event e h)) refl

    refused_pending : (e : Entry) (h : History) → is_accepted e.response ≡ false → Pending h → Pending (e ∷ h)
    unfolding answered total joined over edge
    refused_pending e h nay p =
        let same = keeps_capture.refused e h nay in
        record { le = rw (same.0, same.1, same.2) p.le; placed = rw (same.0, same.1) p.placed }

    any_pending : (e : Entry) (h : History) → May node h e.who e.invocation e.response → Pending h → (b : Bool) → is_accepted e.response ≡ b → Pending (e ∷ h)
    any_pending e h may p true ok =
        let P : Response → Type 0 = Fits node (joined node h) h in
        let fitting : P e.response = subst P (sym (allowed_response node h e.who e.invocation e.response may ok))
        (response_fits node h p.le (within h p) (facts node (with_call h e.who e.invocation)) e.invocation) in
        next_pending e h (keeps_capture.accepted e h ok) p fitting
    any_pending e h may p false nay = refused_pending e h nay p

    pub pending : (h : History) → IsLegalFor node h → Pending h
    pending [] legal = fresh_pending [] (ap after_of keeps_capture.empty)
    pending (e ∷ h) legal = any_pending e h legal.1 (pending h legal.0) (is_accepted e.response) refl

    pub names_a_byte : OverflowNamesAByte node
    names_a_byte h x legal is =
        let placed : IsPlaced (Some x) (answered node h) (total node h) = subst (λ o. IsPlaced o (answered node h) (total node h)) is (pending h legal).placed in
        omega (arith, placed.0, placed.1)
