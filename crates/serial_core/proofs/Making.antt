-- A client's calls stand in the logs, each once and in their order, and an entry of the feeder behind one that waits.
use Rattle.serial_core.proofs.Imports.{◌≡◌, ◌≢◌, refl, sym, ap, subst, ◌∙◌, ℕ, suc, ◌+◌, ◌≤◌, Bool, true, false, nat_eq, List, [], ◌∷◌, ◌++◌, Some, length, length-append, append-nil, take, ◌⊎◌, inl, inr, ⊎_elim, arith, IsSome, slice_get, map-append, length-map, take-append-le, take_all, slice_get_within, nat_tests, DEMUX_NODES, Response, LogEntry, act_of, Scripted, Event, call_of, plays_of, next_event, waits_on, IsEvent, InTurn, AreAsked, replies, at_before, got_last, at_end, turn_more, asked_more, filter_more, by_caller, on_node}

-- right behind the entry stands one of the feeder's
abbrev pub IsFedBehind : (logs : ℕ → List LogEntry) → LogEntry → Type 0
IsFedBehind logs e = (x : LogEntry) × (slice_get (logs e.node) (e.place + 1) ≡ Some x) × (x.who ≡ 0)

-- the entry is the last on its node, and the stream has not ended
abbrev pub IsOpenBehind : (logs : ℕ → List LogEntry) → (ended : Bool) → LogEntry → Type 0
IsOpenBehind logs ended e = (slice_get (logs e.node) e.place ≡ Some e) × (length (logs e.node) ≡ e.place + 1) × (ended ≡ false)

-- the log goes on
abbrev IsLonger : (before after : List LogEntry) → Type 0
IsLonger before after = (more : List LogEntry) × (after ≡ before ++ more)

still_fed : (logs after : ℕ → List LogEntry) (e : LogEntry) → IsLonger (logs e.node) (after e.node) → IsFedBehind logs e → IsFedBehind after e
still_fed logs after e (more, is) (x, there, feeder) =
    (x, subst (λ h. slice_get h (e.place + 1) ≡ Some x) (sym is) (at_before (logs e.node) more (e.place + 1) x there), feeder)

module _ (script : Scripted) (client : ℕ) where
  -- the client waits after these replies
  abbrev pub Waits : List Response → Type 0
  Waits got = IsSome (waits_on client script got)

  -- the calls that a client has made, by the logs of the nodes and its replies, where the stream has ended or not
  pub record AreMade (logs : ℕ → List LogEntry) (ended : Bool) (got : List Response) : Type 0 where
    pub made : List LogEntry
    pub same : replies made ≡ got
    pub steps : InTurn (client + 1) made
    pub events : AreAsked script client made
    pub within : (i : ℕ) (e : LogEntry) → slice_get made i ≡ Some e → e.node ≤ DEMUX_NODES
    -- on each node they are the client's entries, in their order
    pub each : (node : ℕ) → node ≤ DEMUX_NODES → on_node node made ≡ by_caller (client + 1) (logs node)
    -- where the client waits after a call, the feeder's entry is behind it, or is to come before the client's next
    pub paid : (i : ℕ) (e : LogEntry) → slice_get made i ≡ Some e → Waits (replies (take (suc i) made)) → IsFedBehind logs e ⊎ (suc i ≡ length made) × IsOpenBehind logs ended e

  -- after the last of them the client waits as after its replies
  waits_last : (made : List LogEntry) (got : List Response) (i : ℕ) → replies made ≡ got → suc i ≡ length made → Waits (replies (take (suc i) made)) → Waits got
  waits_last made got i same last waits = subst (λ rs. Waits rs) (ap replies (take_all (suc i) made (omega (arith, last))) ∙ same) waits

  -- ------ a call of another

  -- the log is the same, or has one entry more that isn't this client's
  abbrev pub IsOthers : (before after : List LogEntry) → Type 0
  IsOthers before after = (after ≡ before) ⊎ ((x : LogEntry) × (after ≡ before ++ x ∷ []) × (x.who ≢ client + 1))

  longer : (before after : List LogEntry) → IsOthers before after → IsLonger before after × (by_caller (client + 1) before ≡ by_caller (client + 1) after)
  longer before after (inl same) = (([], same ∙ sym (append-nil before)), ap (by_caller (client + 1)) (sym same))
  longer before after (inr (x, more, not)) =
      let others : nat_eq x.who (client + 1) ≡ false = grind (arith, nat_tests, not) in (
        (x ∷ [], more),
        sym (ap (by_caller (client + 1)) more ∙ filter_more (λ (e : LogEntry). nat_eq e.who (client + 1)) before x false others ∙ append-nil (by_caller (client + 1) before)),
      )

  pub others_made : (logs after : ℕ → List LogEntry) (ended over : Bool) (got : List Response) → ((node : ℕ) → node ≤ DEMUX_NODES → IsOthers (logs node) (after node))
      → ((e : LogEntry) → e.node ≤ DEMUX_NODES → Waits got → IsOpenBehind logs ended e → IsFedBehind after e) → AreMade logs ended got → AreMade after over got
  others_made logs after ended over got others pays m = record {
    made = m.made;
    same = m.same;
    steps = m.steps;
    events = m.events;
    within = m.within;
    each = λ node le. m.each node le ∙ (longer (logs node) (after node) (others node le)).1;
    paid = λ i e is waits. inl (paid i e (m.within i e is) waits (m.paid i e is waits));
  } where
    paid : (i : ℕ) (e : LogEntry) → e.node ≤ DEMUX_NODES → Waits (replies (take (suc i) m.made)) → IsFedBehind logs e ⊎ (suc i ≡ length m.made) × IsOpenBehind logs ended e → IsFedBehind after e
    paid i e le waits (inl fed) = still_fed logs after e (longer (logs e.node) (after e.node) (others e.node le)).0 fed
    paid i e le waits (inr (last, unended)) = pays e le (waits_last m.made got i m.same last waits) unended

  -- ------ a call of the client

  module _ (logs after : ℕ → List LogEntry) (got : List Response) (x : LogEntry) (event : Event) (moment : ℕ) (ended : Bool) (m : AreMade logs ended got)
      (stands : next_event client script got ≡ Some event) (on : x.node ≡ event.node) (within : x.node ≤ DEMUX_NODES) (step : x.step ≡ length got) (who : x.who ≡ client + 1)
      (place : x.place ≡ length (logs x.node)) (act : x.act ≡ act_of (call_of (plays_of client script) event.want moment)) (here : after x.node ≡ logs x.node ++ x ∷ [])
      (elsewhere : (node : ℕ) → node ≤ DEMUX_NODES → node ≢ x.node → after node ≡ logs node)
      (fed : (e : LogEntry) → e.node ≤ DEMUX_NODES → e.who ≡ client + 1 → Waits got → IsOpenBehind logs ended e → ⊥) (unended : Waits (got ++ x.response ∷ []) → ended ≡ false) where
    abbrev all : List LogEntry
    all = m.made ++ x ∷ []

    long : x.step ≡ length m.made
    long = step ∙ ap length (sym m.same) ∙ length-map m.made (λ e. e.response)

    is_event : IsEvent (plays_of client script) (next_event client script (replies m.made)) x
    is_event = subst (λ o. IsEvent (plays_of client script) o x) (sym (ap (λ rs. next_event client script rs) m.same ∙ stands)) (on, (moment, act))

    all_said : replies all ≡ got ++ x.response ∷ []
    all_said = map-append (λ e. e.response) m.made (x ∷ []) ∙ ap (λ rs. rs ++ x.response ∷ []) m.same

    -- what is so on the node and on the others, of the logs before and after
    by_node : (P : ℕ → List LogEntry → List LogEntry → Type 0) → P x.node (logs x.node) (logs x.node ++ x ∷ []) → ((node : ℕ) → nat_eq x.node node ≡ false → P node (logs node) (logs node))
        → (node : ℕ) → node ≤ DEMUX_NODES → P node (logs node) (after node)
    by_node P one other node le = go (nat_eq x.node node) refl where
      go : (b : Bool) → nat_eq x.node node ≡ b → P node (logs node) (after node)
      go true yea = let same : x.node ≡ node = grind (arith, nat_tests, yea) in subst (λ n. P n (logs n) (after n)) same (subst (P x.node (logs x.node)) (sym here) one)
      go false nay = subst (P node (logs node)) (sym (elsewhere node le (λ same. grind (arith, nat_tests, nay, same)))) (other node nay)

    longer_all : (node : ℕ) → node ≤ DEMUX_NODES → IsLonger (logs node) (after node)
    longer_all = by_node (λ node before behind. IsLonger before behind) (x ∷ [], refl) (λ node nay. ([], sym (append-nil (logs node))))

    same_on : (node : ℕ) → node ≤ DEMUX_NODES → by_caller (client + 1) (logs node) ≡ on_node node m.made → on_node node all ≡ by_caller (client + 1) (after node)
    same_on = by_node
        (λ node before behind. by_caller (client + 1) before ≡ on_node node m.made → on_node node all ≡ by_caller (client + 1) behind)
        (λ was.
        let mine : nat_eq x.who (client + 1) ≡ true = grind (arith, nat_tests, who) in
        filter_more (λ (e : LogEntry). nat_eq e.node x.node) m.made x true (grind (arith, nat_tests)) ∙ ap (λ l. l ++ x ∷ []) (sym was)
        ∙ sym (filter_more (λ (e : LogEntry). nat_eq e.who (client + 1)) (logs x.node) x true mine))
        (λ node nay was. filter_more (λ (e : LogEntry). nat_eq e.node node) m.made x false nay ∙ append-nil (on_node node m.made) ∙ sym was)

    -- each call before it is paid for, since the feeder has had its turn
    old_paid : (i : ℕ) (e : LogEntry) → slice_get m.made i ≡ Some e → Waits (replies (take (suc i) m.made)) → IsFedBehind logs e ⊎ (suc i ≡ length m.made) × IsOpenBehind logs ended e → IsFedBehind after e
    old_paid i e is waits (inl behind) = still_fed logs after e (longer_all e.node (m.within i e is)) behind
    old_paid i e is waits (inr (last, still)) = absurd (fed e (m.within i e is) (m.steps i e is).1 (waits_last m.made got i m.same last waits) still)

    new_paid : (i : ℕ) (e : LogEntry) → (slice_get m.made i ≡ Some e) ⊎ (i ≡ length m.made) × (x ≡ e) → Waits (replies (take (suc i) all)) → IsFedBehind after e ⊎ (suc i ≡ length all) × IsOpenBehind after ended e
    new_paid i e (inl old) waits =
        let taken : take (suc i) all ≡ take (suc i) m.made = take-append-le (suc i) m.made (x ∷ []) (omega (arith, slice_get_within m.made i e old)) in
        let before : Waits (replies (take (suc i) m.made)) = subst (λ l. Waits (replies l)) taken waits in
        inl (old_paid i e old before (m.paid i e old before))
    new_paid i e (inr new) waits =
        let last : suc i ≡ length all = omega (arith, new.0, length-append m.made (x ∷ [])) in
        let there : slice_get (after x.node) x.place ≡ Some x = subst (λ h. slice_get h x.place ≡ Some x) (sym here) (subst (λ n. slice_get (logs x.node ++ x ∷ []) n ≡ Some x) (sym place) (got_last (logs x.node) x)) in
        let size : length (after x.node) ≡ x.place + 1 = ap length here ∙ length-append (logs x.node) (x ∷ []) ∙ ap (λ n. n + 1) (sym place) in
        inr (last, subst (λ y. IsOpenBehind after ended y) new.1 (there, size, unended (waits_last all (got ++ x.response ∷ []) i all_said last waits)))

    pub mine_made : AreMade after ended (got ++ x.response ∷ [])
    mine_made = record {
      made = all;
      same = all_said;
      steps = turn_more m.made x (client + 1) m.steps long who;
      events = asked_more m.made x script client m.events is_event;
      within = λ i e is. ⊎_elim (λ old. m.within i e old) (λ new. subst (λ (y : LogEntry). y.node ≤ DEMUX_NODES) new.1 within) (at_end m.made x e i is);
      each = λ node le. same_on node le (sym (m.each node le));
      paid = λ i e is waits. new_paid i e (at_end m.made x e i is) waits;
    }
