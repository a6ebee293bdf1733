-- What a selector takes in with an entry by which a capture goes on.
use Rattle.node_core.proofs.Imports.{ℕ, ◌≡◌, refl, sym, ◌∙◌, ap, Bool, true, false, List, [], ◌∷◌, ◌++◌, Option, Some, None, length, arith, ◌≢◌, ◌&&◌, not, if◌then◌else◌, is_some, nat_lt, filter, and_parts, nat_tests, append-nil, Input, Pass, Passed, Entry, History, entry_of, event, Since, tenure, Params, Empty, Section, Pes, params, pids, capture, is_stopped, is_same_input, is_named, is_oneshot, packets_in, offered, items, expired, has_had_its_section, Stays, params_stays, capture_stays, is_stopped_after, offered_stopped, offered_after_expiry, offered_more, items_quiet, Selecting, is_once, items_found, kept_after, Selects, choice_of, input_of, is_offered, offers, HasSelected, all-selects, spent-selects, once-spent}
use Rattle.node_core.proofs.Looking.{HasItsPid, offered-named}
use Rattle.node_core.proofs.Offerings.{items_given}

-- the selector stands for the history
abbrev pub Has : History → Selecting → Type 0
Has h k = Selects (offers (params h) (offered h)) (items h) k

-- an entry by which a capture goes on, if there is one
pub selected_goes : (e : Entry) (h : History) (t : Since) → Stays e h → tenure h ≡ Some t → (k k' : Selecting) → HasSelected h k
    → ((s : Since) → capture h ≡ Some s → Has h k → Has (e ∷ h) k') → HasSelected (e ∷ h) k'
selected_goes e h t stays held k k' has each = λ c is. by_capture (capture h) refl c is where
  by_capture : (o : Option Since) → capture h ≡ o → (c : Since) → capture (e ∷ h) ≡ Some c → Has (e ∷ h) k'
  by_capture None none c is = absurd (let n : None ≡ Some c = rw (capture_stays e h t stays held, none) at is in cc)
  by_capture (Some s) runs c is = each s runs (has s runs)

-- an entry after which there is no capture
pub selected_none : (h : History) (k : Selecting) → capture h ≡ None → HasSelected h k
selected_none h k none = λ c is. absurd (let n : None ≡ Some c = sym none ∙ is in cc)

-- ------ what is offered

module _ (e : Entry) (h : History) (t s : Since) (stays : Stays e h) (held : tenure h ≡ Some t) (runs : capture h ≡ Some s) where
  -- the packets of the filter's input, where it runs
  abbrev pub offering : (live : Bool) → List (List ℕ)
  offering live = if live then packets_in (input_of (params h)) (event e h) else []

  pub offers_after : offers (params (e ∷ h)) (offered (e ∷ h))
      ≡ offers (params h) (offered h) ++ filter (is_offered (params h) (pids h)) (offering (not (is_stopped (e ∷ h)) && not (is_some (expired (e ∷ h)))))
  offers_after = by_stop (is_stopped (e ∷ h)) refl where
    same : offered (e ∷ h) ≡ offered h → offers (params (e ∷ h)) (offered (e ∷ h)) ≡ offers (params h) (offered h) ++ []
    same is = rw (params_stays e h t stays held, is, append-nil (offers (params h) (offered h))) refl

    by_expiry : (nay : is_stopped (e ∷ h) ≡ false) → (o : Option ℕ) → expired (e ∷ h) ≡ o
        → offers (params (e ∷ h)) (offered (e ∷ h)) ≡ offers (params h) (offered h) ++ filter (is_offered (params h) (pids h)) (offering (not (is_some o)))
    by_expiry nay (Some m) is = same (offered_after_expiry e h t s stays held runs nay m is)
    by_expiry nay None is = rw (params_stays e h t stays held, offered_more e h t s stays held runs nay is) refl

    by_stop : (b : Bool) → is_stopped (e ∷ h) ≡ b
        → offers (params (e ∷ h)) (offered (e ∷ h)) ≡ offers (params h) (offered h) ++ filter (is_offered (params h) (pids h)) (offering (not b && not (is_some (expired (e ∷ h)))))
    by_stop true yea = same (offered_stopped e h t s stays held runs yea)
    by_stop false nay = by_expiry nay (expired (e ∷ h)) refl

  no_offering : (b : Bool) → packets_in (input_of (params h)) (event e h) ≡ [] → offering b ≡ []
  no_offering true quiet = quiet
  no_offering false quiet = refl

  -- no packet passes with this entry
  pub selected_quiet : (k : Selecting) → ((input : Input) → packets_in input (event e h) ≡ []) → Has h k → Has (e ∷ h) k
  selected_quiet k quiet has =
      let live : Bool = not (is_stopped (e ∷ h)) && not (is_some (expired (e ∷ h))) in
      let same : offers (params (e ∷ h)) (offered (e ∷ h)) ≡ offers (params h) (offered h) =
      offers_after ∙ (ap (λ ps. offers (params h) (offered h) ++ filter (is_offered (params h) (pids h)) ps) (no_offering live (quiet (input_of (params h)))) ∙ append-nil (offers (params h) (offered h))) in
      rw (same, items_quiet e h t s stays held runs quiet) has

-- ------ a pass

-- What a selector takes in of packets, where they are offered, and where a one-shot filter has had its section: it stands for
-- them, has none ready, and has the same filter.
take_in : (k : Selecting) (before given packets : List (List ℕ)) (offering had : Bool) → k.ready ≡ [] → (had ≡ true → k.is_spent ≡ true) → Selects before given k
    → Selects (before ++ (if offering then packets else [])) (given ++ (if offering && not had then items_found k packets else [])) (if offering && not had then kept_after k packets else k)
    × ((if offering && not had then kept_after k packets else k).ready ≡ [])
    × ((if offering && not had then kept_after k packets else k).choice ≡ k.choice)
take_in k before given packets false had ready spent has = (rw (append-nil before, append-nil given) has, ready, refl)
take_in k before given packets true true ready spent has = (rw (append-nil given) (spent-selects before packets given k has (spent refl) ready), ready, refl)
take_in k before given packets true false ready spent has = let all = all-selects packets before given k has ready in (all.stands, all.drained, all.choice)

and_apart : (a b c d : Bool) → (a && (b && (c && not d))) ≡ ((a && (b && c)) && not d)
and_apart true true true d = refl
and_apart _ _ _ d = refl

if_both : (a b : Bool) (packets : List (List ℕ)) → (if b then (if a then packets else []) else []) ≡ (if a && b then packets else [])
if_both true true packets = refl
if_both true false packets = refl
if_both false true packets = refl
if_both false false packets = refl

-- a one-shot filter that has had its section
had_once : (set : Params) (given : List (List ℕ)) → has_had_its_section set (length given) ≡ true → (is_once (choice_of set) ≡ true) × (given ≢ [])
had_once Empty given yea = absurd (cc)
had_once (Pes p) given yea = absurd (cc)
had_once (Section p) given yea =
    let both = and_parts (is_oneshot p) (nat_lt 0 (length given)) yea in
    (both.0, λ none. let k : nat_lt 0 0 ≡ true = rw none at both.1 in absurd (grind (arith, nat_tests)))

module _ (h : History) (t s : Since) (who : ℕ) (input : Input) (first : ℕ) (packets : List (List ℕ)) (now : ℕ) (held : tenure h ≡ Some t) (runs : capture h ≡ Some s) where
  abbrev passing : Entry
  passing = entry_of who (Pass input first packets now) Passed

  -- the packets are taken in
  abbrev pub is_taken : Bool
  is_taken = is_same_input input (input_of (params h)) && (not (is_stopped h) && (not (is_some (expired (passing ∷ h))) && not (has_had_its_section (params h) (length (items h)))))

  module _ (stays : Stays passing h) (own : HasItsPid (params h) (pids h)) (k : Selecting) (choice : k.choice ≡ choice_of (params h)) (ready : k.ready ≡ []) (has : Has h k) where
    -- those that its PIDs name
    abbrev pub named : List (List ℕ)
    named = filter (is_named (pids h)) packets

    widened : (offering : Bool) (before given : List (List ℕ)) (s : Selecting) → s.choice ≡ choice_of (params h) → Selects (before ++ (if offering then named else [])) given s
        → Selects (before ++ filter (is_offered (params h) (pids h)) (if offering then packets else [])) given s
    widened true before given s is k = offered-named (params h) (pids h) own before packets given s is k
    widened false before given s is k = k

    taken_in : Selects (offers (params (passing ∷ h)) (offered (passing ∷ h))) (items h ++ (if is_taken then items_found k named else [])) (if is_taken then kept_after k named else k)
        × ((if is_taken then kept_after k named else k).ready ≡ [])
        × ((if is_taken then kept_after k named else k).choice ≡ k.choice)
    taken_in =
        let offering : Bool = is_same_input input (input_of (params h)) && (not (is_stopped h) && not (is_some (expired (passing ∷ h)))) in
        let had : Bool = has_had_its_section (params h) (length (items h)) in
        let spent : had ≡ true → k.is_spent ≡ true =
        λ yea. let once = had_once (params h) (items h) yea in once-spent (offers (params h) (offered h)) (items h) k has (ap is_once choice ∙ once.0) once.1 in
        let more : offers (params (passing ∷ h)) (offered (passing ∷ h)) ≡ offers (params h) (offered h) ++ filter (is_offered (params h) (pids h)) (if offering then packets else []) =
        offers_after passing h t s stays held runs
        ∙ rw (is_stopped_after passing h t s stays held runs, if_both (is_same_input input (input_of (params h))) (not (is_stopped h) && not (is_some (expired (passing ∷ h)))) packets) refl in
        let all = take_in k (offers (params h) (offered h)) (items h) named offering had ready spent has in
        rw (more, and_apart (is_same_input input (input_of (params h))) (not (is_stopped h)) (not (is_some (expired (passing ∷ h)))) had)
        (widened offering _ _ _ (all.2 ∙ choice) all.0, all.1, all.2)

    -- the items that arrive
    pub items_taken : items (passing ∷ h) ≡ items h ++ (if is_taken then items_found k named else [])
    items_taken =
        items_given (passing ∷ h) (items h ++ (if is_taken then items_found k named else [])) (if is_taken then kept_after k named else k)
        (taken_in.2 ∙ (choice ∙ ap choice_of (sym (params_stays passing h t stays held)))) taken_in.1 taken_in.0

    pub selected_taken : Has (passing ∷ h) (if is_taken then kept_after k named else k)
    selected_taken = rw items_taken taken_in.0
