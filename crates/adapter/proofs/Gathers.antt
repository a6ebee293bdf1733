-- All callers' passes are joined, caller by caller.
use Rattle.adapter.proofs.Imports.{◌≡◌, ℕ, List, [], ◌∷◌, ◌++◌, length, slice_get, Some, ap, sym, ◌∙◌, arith, append_assoc, option_to_list, TableId, View, map-append, slice_get_within, Entry, Caller, rows_of, Fits, AllJoin, column, AreAllRows, AreGathered, ◌⊎◌, ◌<◌, inl, inr, ⊎_elim, refl, subst, IsPrefix, Has, has_left, has_right, prefix_trans, SomeHas, AreAll, all_calls, EachBegins}
use Rattle.adapter.proofs.Lists.{at_place, at_last, at_before, at_either}

-- ------ Passes that are joined one after another

nothing_at : {A : Type 0} (i : ℕ) (a : A) → slice_get [] i ≡ Some a → ⊥
nothing_at i a e = absurd (cc e)

module _ {N : Type 0} where
  calls_more : (ys : List (TableId × View N)) (p : TableId × View N) → all_calls (ys ++ p ∷ []) ≡ p.1.own ++ all_calls ys
  calls_more [] p = nil_end p.1.own where
    nil_end : {A : Type 0} (l : List A) → [] ++ l ≡ l ++ []
    nil_end [] = refl
    nil_end (x ∷ l) = ap (λ m. x ∷ m) (nil_end l)
  calls_more (y ∷ ys) p = ap (λ l. l ++ y.1.own) (calls_more ys p) ∙ append_assoc p.1.own (all_calls ys) y.1.own

  -- how far the passes are joined: `into` has what those that are no more among the rest had
  pub record Joined (lock : TableId) (all rest : List (TableId × View N)) (into : TableId × View N) : Type 0 where
    pub own : into.0 ≡ lock
    pub others : (i : ℕ) (p : TableId × View N) → slice_get rest i ≡ Some p → p.0 ≡ lock
    pub numbers : (w : ℕ) → w < into.1.callers → Has into.1.numbers w ⊎ SomeHas rest w
    pub calls : into.1.own ++ all_calls rest ≡ all_calls all
    pub begins : (i : ℕ) (p : TableId × View N) → slice_get all i ≡ Some p → IsPrefix p.1.seen into.1.seen ⊎ ((j : ℕ) × (slice_get rest j ≡ Some p))

  some_split : (ys : List (TableId × View N)) (p : TableId × View N) (w : ℕ) → SomeHas (ys ++ p ∷ []) w → Has p.1.numbers w ⊎ SomeHas ys w
  some_split ys p w h = ⊎_elim (λ old. inr (h.0, h.1, old, h.3)) (λ (e : p ≡ h.1). inl (subst (λ (q : TableId × View N). Has q.1.numbers w) (sym e) h.3)) (at_either ys p h.1 h.0 h.2)

  -- the first pass that is taken
  pub first_joined : (lock : TableId) (xs ys : List (TableId × View N)) (p : TableId × View N) → AreAll lock xs → xs ≡ ys ++ p ∷ [] → Joined lock xs ys p
  first_joined lock xs ys p all e =
      let here : slice_get xs (length ys) ≡ Some p = ap (λ (l : List (TableId × View N)). slice_get l (length ys)) e ∙ at_last ys p in let mine = all (length ys) p here in record {
        own = mine.0;
        others = λ i q h. (all i q (ap (λ (l : List (TableId × View N)). slice_get l i) e ∙ at_before ys (p ∷ []) i q h)).0;
        numbers = λ w below. some_split ys p w (subst (λ (l : List (TableId × View N)). SomeHas l w) e (mine.1 w below));
        calls = sym (calls_more ys p) ∙ ap all_calls (sym e);
        begins = λ i q h. ⊎_elim (λ old. inr (i, old)) (λ (same : p ≡ q). inl (subst (λ (z : TableId × View N). IsPrefix z.1.seen p.1.seen) same (begins_itself p.1.seen))) (at_either ys p q i (sym (ap (λ (l : List (TableId × View N)). slice_get l i) e) ∙ h));
      } where
        begins_itself : (l : List N) → IsPrefix l l
        begins_itself [] = ([], refl)
        begins_itself (x ∷ l) = (let r = begins_itself l in r.0, ap (λ m. x ∷ m) (begins_itself l).1)

  -- it is joined
  pub next_joined : (lock : TableId) (all rest ys : List (TableId × View N)) (into p new : TableId × View N) → Joined lock all rest into → rest ≡ ys ++ p ∷ []
      → new.0 ≡ into.0 → new.1.callers ≡ into.1.callers → new.1.numbers ≡ into.1.numbers ++ p.1.numbers → new.1.own ≡ into.1.own ++ p.1.own → IsPrefix into.1.seen new.1.seen → IsPrefix p.1.seen new.1.seen
      → Joined lock all ys new
  next_joined lock all rest ys into p new j e same callers numbers own seen theirs = record {
    own = same ∙ j.own;
    others = λ i q h. j.others i q (ap (λ (l : List (TableId × View N)). slice_get l i) e ∙ at_before ys (p ∷ []) i q h);
    numbers = λ w below. subst (λ (l : List ℕ). Has l w ⊎ SomeHas ys w) (sym numbers)
        (⊎_elim (λ h. inl (has_left into.1.numbers p.1.numbers w h)) (λ s. ⊎_elim (λ h. inl (has_right into.1.numbers p.1.numbers w h)) (λ h. inr h) (some_split ys p w (subst (λ (l : List (TableId × View N)). SomeHas l w) e s)))
        (j.numbers w (subst (λ (n : ℕ). w < n) callers below)));
    calls = ap (λ l. l ++ all_calls ys) own ∙ append_assoc into.1.own p.1.own (all_calls ys) ∙ ap (λ l. into.1.own ++ l) (sym (calls_more ys p) ∙ ap all_calls (sym e)) ∙ j.calls;
    begins = λ i q h. ⊎_elim (λ old. inl (prefix_trans q.1.seen into.1.seen new.1.seen old seen))
        (λ r. ⊎_elim (λ old. inr (r.0, old)) (λ (is : p ≡ q). inl (subst (λ (z : TableId × View N). IsPrefix z.1.seen new.1.seen) is theirs)) (at_either ys p q r.0 (sym (ap (λ (l : List (TableId × View N)). slice_get l r.0) e) ∙ r.1)))
        (j.begins i q h);
  }

  -- all are joined
  pub all_joined : (lock : TableId) (all rest : List (TableId × View N)) (into : TableId × View N) → Joined lock all rest into → rest ≡ []
      → ((w : ℕ) → w < into.1.callers → Has into.1.numbers w) × (into.1.own ≡ all_calls all) × EachBegins all into.1.seen
  all_joined lock all rest into j e =
      let none : (i : ℕ) (p : TableId × View N) → slice_get rest i ≡ Some p → ⊥ = λ i p h. nothing_at i p (sym (ap (λ (l : List (TableId × View N)). slice_get l i) e) ∙ h) in (
        (λ w below. ⊎_elim (λ h. h) (λ s. absurd (none s.0 s.1 s.2)) (j.numbers w below)),
        nil_end into.1.own ∙ (ap (λ l. into.1.own ++ all_calls l) (sym e) ∙ j.calls),
        (λ i p h. ⊎_elim (λ b. b) (λ r. absurd (none r.0 p r.1)) (j.begins i p h)),
      ) where
        nil_end : {A : Type 0} (l : List A) → l ≡ l ++ []
        nil_end [] = refl
        nil_end (x ∷ l) = ap (λ m. x ∷ m) (nil_end l)

module _ {N : Type 0} where
  column_more : (i : ℕ) (hs : List (List (TableId × View N))) (h : List (TableId × View N)) (p : TableId × View N) → slice_get h i ≡ Some p → column i (hs ++ h ∷ []) ≡ column i hs ++ p ∷ []
  column_more i [] h p e = ap (λ o. option_to_list o ++ []) e
  column_more i (x ∷ hs) h p e = ap (λ l. option_to_list (slice_get x i) ++ l) (column_more i hs h p e) ∙ sym (append_assoc (option_to_list (slice_get x i)) (column i hs) (p ∷ []))

  pub record Gathering (locks : List TableId) (all rest : List (List (TableId × View N))) (into : List (TableId × View N)) : Type 0 where
    pub own : Fits locks into
    pub theirs : (k : ℕ) (h : List (TableId × View N)) → slice_get rest k ≡ Some h → Fits locks h
    pub at : (i : ℕ) (l : TableId) (p : TableId × View N) → slice_get locks i ≡ Some l → slice_get into i ≡ Some p → Joined l (column i all) (column i rest) p

  pub first_gathering : (locks : List TableId) (hs : List (List (TableId × View N))) (h : List (TableId × View N)) → AreAllRows locks (hs ++ h ∷ []) → Gathering locks (hs ++ h ∷ []) hs h
  first_gathering locks hs h a = record {
    own = a.fit (length hs) h (at_last hs h);
    theirs = λ k x e. a.fit k x (at_before hs (h ∷ []) k x e);
    at = λ i l p e d. first_joined l (column i (hs ++ h ∷ [])) (column i hs) p (a.all i l e) (column_more i hs h p d);
  }

  pub next_fits : (locks : List TableId) (all rest ys : List (List (TableId × View N))) (into h : List (TableId × View N)) → Gathering locks all rest into → rest ≡ ys ++ h ∷ [] → Fits locks h
  next_fits locks all rest ys into h g e = g.theirs (length ys) h (ap (λ (z : List (List (TableId × View N))). slice_get z (length ys)) e ∙ at_last ys h)

  module _ (locks : List TableId) (all rest ys : List (List (TableId × View N))) (into h new : List (TableId × View N)) (g : Gathering locks all rest into) (e : rest ≡ ys ++ h ∷ []) (j : AllJoin into h new) where
    joined_there : (i : ℕ) (l : TableId) (r : TableId × View N) → slice_get locks i ≡ Some l → slice_get new i ≡ Some r → Joined l (column i all) (column i ys) r
    joined_there i l r a c =
        let low = slice_get_within new i r c in let one = j.long in let f0 = g.own.0 in let t0 = (next_fits locks all rest ys into h g e).0 in
        let p = at_place into i (omega arith) in let q = at_place h i (omega arith) in let o = j.each i p.0 q.0 r p.1 q.1 c in
        next_joined l (column i all) (column i rest) (column i ys) p.0 q.0 r (g.at i l p.0 a p.1) (ap (column i) e ∙ column_more i ys h q.0 q.1) o.own o.callers o.numbers o.calls o.mine o.theirs

    pub next_gathering : Gathering locks all ys new
    next_gathering = record {
      own = (j.long ∙ g.own.0, λ i l r a c. (joined_there i l r a c).own);
      theirs = λ k x d. g.theirs k x (ap (λ (z : List (List (TableId × View N))). slice_get z k) e ∙ at_before ys (h ∷ []) k x d);
      at = joined_there;
    }

  pub all_gathered : (locks : List TableId) (all rest : List (List (TableId × View N))) (into : List (TableId × View N)) → Gathering locks all rest into → rest ≡ [] → AreGathered locks all into
  all_gathered locks all rest into g e = (
    g.own,
    λ i p d.
        let low = slice_get_within into i p d in let f0 = g.own.0 in let l = at_place locks i (omega arith) in
        let a = all_joined l.0 (column i all) (column i rest) p (g.at i l.0 p l.1 d) (ap (column i) e) in
        record { whole = a.0; calls = a.1; begins = a.2 },
  )

pub rows_more : (cs ys : List Caller) (c : Caller) (h : List (TableId × View Entry)) → cs ≡ ys ++ c ∷ [] → h ≡ c.passes → rows_of cs ≡ rows_of ys ++ h ∷ []
rows_more cs ys c h e same = ap rows_of e ∙ map-append (λ (x : Caller). x.passes) ys (c ∷ []) ∙ ap (λ (z : List (TableId × View Entry)). rows_of ys ++ z ∷ []) (sym same)
