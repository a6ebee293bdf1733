-- A call is made on one node after another.
use Rattle.adapter.proofs.Imports.{◌≡◌, ℕ, ◌+◌, ◌<◌, ◌≤◌, Bool, true, false, List, [], ◌∷◌, ◌++◌, length, reverse, slice_get, slice_index, set, Some, ap, sym, ◌∙◌, subst, arith, length-set, get_or-set_same, get_or-set_other, slice_get_within, dite, ℕ_discrete, TableId, View, Input, DEMUX_NODES, Pass, End, Response, Passed, Entry, entry_of, rules_at, last_may, go_by, Fits, MayCall, OneMore, OneCalls, AllCall, IsLegalAt, caller_of}
use Rattle.adapter.proofs.Lists.{set_there, set_elsewhere, one_value}
use Rattle.adapter.proofs.Fitting.{fits_set}

-- a legal history in which a Pass, or an End, comes last has the reply Passed there
pub passes_at : (node : ℕ) (h : List Entry) (who : ℕ) (input : Input) (first : ℕ) (packets : List (List ℕ)) (now : ℕ) (r : Response) → IsLegalAt node (h ++ entry_of who (Pass input first packets now) r ∷ []) → r ≡ Passed
passes_at node h who input first packets now r legal = (go_by (rules_at node)).passes (reverse h) who input first packets now r (last_may (rules_at node) h (entry_of who (Pass input first packets now) r) legal).1

pub ends_at : (node : ℕ) (h : List Entry) (who : ℕ) (r : Response) → IsLegalAt node (h ++ entry_of who End r ∷ []) → r ≡ Passed
ends_at node h who r legal = (go_by (rules_at node)).ends (reverse h) who r (last_may (rules_at node) h (entry_of who End r) legal).1

module _ (locks : List TableId) (among : ℕ → Bool) (entry : ℕ → Entry) (old : List (TableId × View Entry)) where
  pub record PassedTo (node : ℕ) (places : List ℕ) (now : List (TableId × View Entry)) : Type 0 where
    pub fits : Fits locks now
    pub first : Fits locks old
    pub may : MayCall old
    pub long : length places ≡ DEMUX_NODES + 1
    pub later : (i : ℕ) (p : TableId × View Entry) → node ≤ i → slice_get now i ≡ Some p → slice_get old i ≡ Some p
    pub done : (i : ℕ) (p q : TableId × View Entry) → i < node → slice_get old i ≡ Some p → slice_get now i ≡ Some q → among i ≡ true → OneMore caller_of (IsLegalAt i) (entry p.1.number) (slice_index places i) p q
    pub idle : (i : ℕ) (p q : TableId × View Entry) → i < node → slice_get old i ≡ Some p → slice_get now i ≡ Some q → among i ≡ false → q ≡ p

  pub may_now : (node : ℕ) (places : List ℕ) (now : List (TableId × View Entry)) (p : TableId × View Entry) → PassedTo node places now → slice_get now node ≡ Some p → 0 < p.1.left
  may_now node places now p k at = k.may node p (k.later node p (omega arith) at)

  pub next_passed : (node place : ℕ) (e : ℕ → Entry) (places : List ℕ) (now new : List (TableId × View Entry)) → node ≤ DEMUX_NODES → among node ≡ true → PassedTo node places now → OneCalls caller_of (IsLegalAt node) node e place now new
      → ((who : ℕ) (h : List Entry) → IsLegalAt node (h ++ e who ∷ []) → e who ≡ entry who) → PassedTo (node + 1) (set places node place) new
  next_passed node place e places now new below called k o is =
      let few = k.long in let inside : node < length places = omega arith in
      let legal : IsLegalAt node (o.more.before ++ e o.first.1.number ∷ []) = subst (IsLegalAt node) o.more.now o.more.meant in
      let here_is = is o.first.1.number o.more.before legal in record {
        fits = subst (Fits locks) (sym o.is) (fits_set locks now node o.first o.then k.fits o.was o.more.same.0);
        first = k.first;
        may = k.may;
        long = length-set places node place ∙ k.long;
        later = λ i p from at. k.later i p (omega arith) (sym (set_elsewhere now node i o.then (λ here. omega arith)) ∙ ap (λ (l : List (TableId × View Entry)). slice_get l i) (sym o.is) ∙ at);
        done = λ i p q under a b yes. dite (ℕ_discrete i node)
            (λ here.
            let is_p : o.first ≡ p = one_value old node o.first p (k.later node o.first (omega arith) o.was) (ap (slice_get old) (sym here) ∙ a) in
            let is_q : o.then ≡ q = one_value (set now node o.then) node o.then q (set_there now node o.then (slice_get_within now node o.first o.was)) (ap (slice_get (set now node o.then)) (sym here) ∙ ap (λ (l : List (TableId × View Entry)). slice_get l i) (sym o.is) ∙ b) in
            subst (λ (j : ℕ). OneMore caller_of (IsLegalAt j) (entry p.1.number) (slice_index (set places node place) j) p q) (sym here)
            (subst (λ (n : ℕ). OneMore caller_of (IsLegalAt node) (entry p.1.number) n p q) (sym (get_or-set_same places node place 0 inside))
            (subst (λ z. OneMore caller_of (IsLegalAt node) (entry z.1.number) place z q) is_p (subst (λ z. OneMore caller_of (IsLegalAt node) (entry o.first.1.number) place o.first z) is_q
            (subst (λ x. OneMore caller_of (IsLegalAt node) x place o.first o.then) here_is o.more)))))
            (λ more. subst (λ (n : ℕ). OneMore caller_of (IsLegalAt i) (entry p.1.number) n p q) (sym (get_or-set_other places node i place 0 more))
            (k.done i p q (omega arith) a (sym (set_elsewhere now node i o.then more) ∙ ap (λ (l : List (TableId × View Entry)). slice_get l i) (sym o.is) ∙ b) yes));
        idle = λ i p q under a b no. dite (ℕ_discrete i node)
            (λ here. let both : true ≡ false = sym called ∙ (ap among (sym here) ∙ no) in absurd (cc both))
            (λ more. k.idle i p q (omega arith) a (sym (set_elsewhere now node i o.then more) ∙ ap (λ (l : List (TableId × View Entry)). slice_get l i) (sym o.is) ∙ b) no);
      }

  pub all_passed : (node : ℕ) (places : List ℕ) (now : List (TableId × View Entry)) → length locks ≡ DEMUX_NODES + 1 → node ≡ DEMUX_NODES + 1 → PassedTo node places now → AllCall caller_of IsLegalAt among entry places old now
  all_passed node places now all end k = record {
    long = k.fits.0 ∙ sym k.first.0;
    each = λ i p q a b yes. let low = slice_get_within now i q b in let long = k.fits.0 in k.done i p q (omega arith) a b yes;
    others = λ i p q a b no. let low = slice_get_within now i q b in let long = k.fits.0 in k.idle i p q (omega arith) a b no;
  }
