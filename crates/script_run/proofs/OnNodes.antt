-- The calls of a client on a node are the entries that the node's history has of it, in one order.
use Rattle.script_run.proofs.Imports.{◌≡◌, refl, sym, ap, subst, ◌∙◌, ℕ, zero, suc, ◌+◌, ◌<◌, Bool, true, false, nat_eq, List, [], ◌∷◌, length, filter, Some, slice_get, inl, inr, arith, ◌⊎◌, if◌then◌else◌, nat_tests, Has, has_at, at_place, one_value, LogEntry, Scripted, StandsIn, InTurn, AreAsked, AreCalls}
use Rattle.script_run.proofs.Lists.{at_has, has_filter, of_filter}

-- ------ entries whose places rise

abbrev Rises : List LogEntry → Type 0
Rises [] = Unit {0}
Rises (e ∷ es) = ((f : LogEntry) → Has es f → e.place < f.place) × Rises es

rises_where : (p : LogEntry → Bool) (es : List LogEntry)
    → ((i j : ℕ) (e f : LogEntry) → i < j → slice_get es i ≡ Some e → slice_get es j ≡ Some f → p e ≡ true → p f ≡ true → e.place < f.place) → Rises (filter p es)
rises_where p [] order = tt
rises_where p (e ∷ es) order = go (p e) refl (rises_where p es (λ i j x f lt at there. order (suc i) (suc j) x f (omega (arith, lt)) at there)) where
  go : (b : Bool) → p e ≡ b → Rises (filter p es) → Rises (if b then e ∷ filter p es else filter p es)
  go true yea later =
      (λ f has. let kept = of_filter p es f has in let there = at_has es f kept.0 in order 0 (suc there.0) e f (omega arith) refl there.1 yea kept.1, later)
  go false nay later = later

-- where they rise, one that is made before another stands before it
order_where : (p : LogEntry → Bool) (es : List LogEntry) → Rises (filter p es)
    → (i j : ℕ) (e f : LogEntry) → i < j → slice_get es i ≡ Some e → slice_get es j ≡ Some f → p e ≡ true → p f ≡ true → e.place < f.place
order_where p [] up i j e f lt at there yea also = absurd (cc at)
order_where p (x ∷ es) up i zero e f lt at there yea also = absurd (omega (arith, lt))
order_where p (x ∷ es) up zero (suc j) e f lt at there yea also = first (p x) (ap p same ∙ yea) up where
  same : x ≡ e
  same = cc at

  first : (b : Bool) → b ≡ true → Rises (if b then x ∷ filter p es else filter p es) → e.place < f.place
  first true is up = subst (λ (y : LogEntry). y.place < f.place) same (up.0 f (has_filter p es f also (has_at es f j there)))
  first false is up = absurd (cc is)
order_where p (x ∷ es) up (suc i) (suc j) e f lt at there yea also = order_where p es (later (p x) up) i j e f (omega (arith, lt)) at there yea also where
  later : (b : Bool) → Rises (if b then x ∷ filter p es else filter p es) → Rises (filter p es)
  later true up = up.1
  later false up = up

-- those that have the same entries are the same
same_entries : (xs ys : List LogEntry) → Rises xs → Rises ys → ((e : LogEntry) → Has xs e → Has ys e) → ((e : LogEntry) → Has ys e → Has xs e) → xs ≡ ys
same_entries [] [] r s to from = refl
same_entries [] (y ∷ ys) r s to from = absurd (from y (inl refl))
same_entries (x ∷ xs) [] r s to from = absurd (to x (inl refl))
same_entries (x ∷ xs) (y ∷ ys) r s to from = go (same_entries xs ys r.1 s.1) where
  first : (y ≡ x) ⊎ Has ys x → (x ≡ y) ⊎ Has xs y → x ≡ y
  first (inl same) m = sym same
  first (inr n) (inl same) = same
  first (inr n) (inr m) = absurd (omega (arith, s.0 x n, r.0 y m))

  heads : x ≡ y
  heads = first (to x (inl refl)) (from y (inl refl))

  behind : (e : LogEntry) → Has xs e → (y ≡ e) ⊎ Has ys e → Has ys e
  behind e m (inl same) = absurd (omega (arith, r.0 e m, ap (λ (f : LogEntry). f.place) (heads ∙ same)))
  behind e m (inr n) = n

  before : (e : LogEntry) → Has ys e → (x ≡ e) ⊎ Has xs e → Has xs e
  before e n (inl same) = absurd (omega (arith, s.0 e n, ap (λ (f : LogEntry). f.place) (sym heads ∙ same)))
  before e n (inr m) = m

  go : (((e : LogEntry) → Has xs e → Has ys e) → ((e : LogEntry) → Has ys e → Has xs e) → xs ≡ ys) → x ∷ xs ≡ y ∷ ys
  go deeper = ap (λ l. x ∷ l) (deeper (λ e m. behind e m (to e (inr m))) (λ e n. before e n (from e (inr n)))) ∙ ap (λ z. z ∷ ys) heads

-- ------ the calls of a client

-- the entries of a caller, and those on a node
abbrev pub by_caller : (who : ℕ) → List LogEntry → List LogEntry
by_caller who h = filter (λ e. nat_eq e.who who) h

abbrev pub on_node : (node : ℕ) → List LogEntry → List LogEntry
on_node node made = filter (λ e. nat_eq e.node node) made

-- on each node the caller's entries are these calls, in their order
abbrev pub AreOnEach : (who : ℕ) (hs : List (List LogEntry)) → List LogEntry → Type 0
AreOnEach who hs made = (node : ℕ) (h : List LogEntry) → slice_get hs node ≡ Some h → on_node node made ≡ by_caller who h

module _ (script : Scripted) (client : ℕ) (hs : List (List LogEntry)) (made : List LogEntry)
    (placed : (node place : ℕ) (h : List LogEntry) (e : LogEntry) → slice_get hs node ≡ Some h → slice_get h place ≡ Some e → (e.node ≡ node) × (e.place ≡ place)) where
  module _ (node : ℕ) (h : List LogEntry) (at : slice_get hs node ≡ Some h) where
    abbrev is_here : LogEntry → Bool
    is_here e = nat_eq e.node node

    abbrev is_own : LogEntry → Bool
    is_own e = nat_eq e.who (client + 1)

    own_rises : Rises (by_caller (client + 1) h)
    own_rises = rises_where is_own h (λ i j e f lt there then_there yea also. omega (arith, lt, (placed node i h e at there).1, (placed node j h f at then_there).1))

    module _ (calls : AreCalls script client hs made) where
      here_rises : Rises (on_node node made)
      here_rises = rises_where is_here made (λ i j e f lt there then_there yea also.
          let same : e.node ≡ f.node = grind (arith, nat_tests, yea, also) in calls.in_order i j e f lt there then_there same)

      to_history : (e : LogEntry) → Has (on_node node made) e → Has (by_caller (client + 1) h) e
      to_history e has =
          let kept = of_filter is_here made e has in
          let there = at_has made e kept.0 in
          let s = calls.stands there.0 e there.1 in
          let who = (calls.steps there.0 e there.1).1 in
          let here : e.node ≡ node = grind (arith, nat_tests, kept.1) in
          let same : s.0 ≡ h = one_value hs node s.0 h (sym (ap (λ n. slice_get hs n) here) ∙ s.1) at in
          let stands : slice_get h e.place ≡ Some e = sym (ap (λ l. slice_get l e.place) same) ∙ s.2 in
          let own : is_own e ≡ true = grind (arith, nat_tests, who) in
          has_filter is_own h e own (has_at h e e.place stands)

      from_history : (e : LogEntry) → Has (by_caller (client + 1) h) e → Has (on_node node made) e
      from_history e has =
          let kept = of_filter is_own h e has in
          let there = at_has h e kept.0 in
          let own : e.who ≡ client + 1 = grind (arith, nat_tests, kept.1) in
          let here : is_here e ≡ true = grind (arith, nat_tests, (placed node there.0 h e at there.1).0) in
          has_filter is_here made e here (has_at made e e.step (calls.only node there.0 h e at there.1 own))

      -- its calls on the node are its entries in the node's history
      pub calls_on : on_node node made ≡ by_caller (client + 1) h
      calls_on = same_entries (on_node node made) (by_caller (client + 1) h) here_rises own_rises to_history from_history

  -- calls that on each node are the client's entries there are its calls in the histories
  module _ (steps : InTurn (client + 1) made) (events : AreAsked script client made)
      (low : (i : ℕ) (e : LogEntry) → slice_get made i ≡ Some e → e.node < length hs) (each : AreOnEach (client + 1) hs made) where
    there_in : (node : ℕ) (h : List LogEntry) → slice_get hs node ≡ Some h → (e : LogEntry) → Has made e → e.node ≡ node → (i : ℕ) × (slice_get h i ≡ Some e)
    there_in node h at e has is =
        let here : Has (on_node node made) e = has_filter (λ (f : LogEntry). nat_eq f.node node) made e (grind (arith, nat_tests, is)) has in
        at_has h e (of_filter (λ (f : LogEntry). nat_eq f.who (client + 1)) h e (subst (λ l. Has l e) (each node h at) here)).0

    stands_in : (e : LogEntry) → Has made e → (h : List LogEntry) × (slice_get hs e.node ≡ Some h) → StandsIn hs e
    stands_in e has (h, at) =
        let t = there_in e.node h at e has refl in
        (h, at, ap (slice_get h) (placed e.node t.0 h e at t.1).1 ∙ t.1)

    only_in : (node place : ℕ) (h : List LogEntry) (e : LogEntry) → slice_get hs node ≡ Some h → slice_get h place ≡ Some e → e.who ≡ client + 1 → slice_get made e.step ≡ Some e
    only_in node place h e at there own =
        let mine : Has (by_caller (client + 1) h) e = has_filter (λ (f : LogEntry). nat_eq f.who (client + 1)) h e (grind (arith, nat_tests, own)) (has_at h e place there) in
        let t = at_has made e (of_filter (λ (f : LogEntry). nat_eq f.node node) made e (subst (λ l. Has l e) (sym (each node h at)) mine)).0 in
        ap (slice_get made) (steps t.0 e t.1).0 ∙ t.1

    in_order : (i j : ℕ) (e f : LogEntry) → i < j → slice_get made i ≡ Some e → slice_get made j ≡ Some f → e.node ≡ f.node → (h : List LogEntry) × (slice_get hs e.node ≡ Some h) → e.place < f.place
    in_order i j e f lt a b same (h, at) =
        order_where (λ (g : LogEntry). nat_eq g.node e.node) made (subst Rises (sym (each e.node h at)) (own_rises e.node h at)) i j e f lt a b (grind (arith, nat_tests)) (grind (arith, nat_tests, same))

    pub calls_of : AreCalls script client hs made
    calls_of = record {
      steps = steps;
      events = events;
      stands = λ i e at. stands_in e (has_at made e i at) (at_place hs e.node (low i e at));
      only = only_in;
      in_order = λ i j e f lt a b same. in_order i j e f lt a b same (at_place hs e.node (low i e a));
    }
