-- A capture of a demux node's filter, one entry later: what is live, the expiry, the items.
use Rattle.dmx_calls.proofs.Imports.{ℕ, ◌+◌, ◌≡◌, refl, sym, ◌∙◌, ap, Bool, true, false, ◌||◌, List, [], ◌∷◌, ◌++◌, Option, Some, None, length, take, arith, if◌then◌else◌, nat_eq, nat_le, filter, option_map, option_or, list_any, append-nil, filter-append, or_parts, nat_tests, stay, Input, Frontend, SectionParams, Entry, Event, History, is_empty, event, Since, also, Params, Empty, Section, Pes, tenure, params, pids, capture, stops, unstopped, packets_in, packets_of, selects, is_oneshot, picked, selected, timeout_of, clock_of, Expiry, expiry_at, offered_of, tells_timeout, live, started, is_stopped, section_items, expiry, offered, items, is_told, expired}
use Rattle.ts_packet.specs.Clean.{clean, without_repeats_after}
use Rattle.section_parse.specs.Segments.{runs}
use Rattle.section_parse.specs.Sections.{sections}
use Rattle.dmx_calls.proofs.Going.{more, Stays, params_stays, capture_stays}

-- ------ the expiry with one event more

abbrev pub expiry_next : Params → (due : ℕ) → Event → List Event → Option Expiry → Option Expiry
expiry_next set due ev evs before = option_or before (if is_empty (selected set evs) then expiry_at due (clock_of ev) evs else None)

-- its moment alone
abbrev pub reaches : (due : ℕ) → Option ℕ → Option ℕ
reaches due None = None
reaches due (Some now) = if nat_le due now then Some now else None

-- the moment needs only what was known before: the timeout, the start, the expiry so far, and whether there was no item
abbrev pub expired_next : (timeout start : ℕ) → (before : Option ℕ) → (is_none : Bool) → (now : Option ℕ) → Option ℕ
expired_next timeout start before is_none now = if nat_eq timeout 0 then None else option_or before (if is_none then reaches (start + timeout) now else None)

-- ------ selected items only grow

take_one : {A : Type 0} (xs ys : List A) → (zs : List A) × (take 1 (xs ++ ys) ≡ take 1 xs ++ zs)
take_one [] ys = (take 1 ys, refl)
take_one (x ∷ xs) ys = ([], refl)

once_grows : {A : Type 0} (b : Bool) (xs ys : List A) → (zs : List A) × ((if b then take 1 (xs ++ ys) else xs ++ ys) ≡ (if b then take 1 xs else xs) ++ zs)
once_grows true xs ys = take_one xs ys
once_grows false xs ys = (ys, refl)

section_items-grow : (p : SectionParams) (ev : Event) (evs : List Event) → (new : List (List ℕ)) × (section_items p (ev ∷ evs) ≡ section_items p evs ++ new)
unfolding section_items
section_items-grow p ev evs =
    let longer = stay (packets_of Frontend evs) (packets_in Frontend ev) p.pid in
    let grown = once_grows (is_oneshot p) (filter (selects p) (sections (packets_of Frontend evs) p.pid)) (filter (selects p) longer.0) in
    (grown.0, rw (longer.1, filter-append (selects p) (sections (packets_of Frontend evs) p.pid) longer.0) grown.1)

pub section_items-nil : (p : SectionParams) → section_items p [] ≡ []
unfolding section_items sections clean without_repeats_after runs
section_items-nil p = by_once (is_oneshot p) where
  by_once : (b : Bool) → (let none : List (List ℕ) = [] in if b then take 1 none else none) ≡ []
  by_once true = refl
  by_once false = refl

pub selected-grows : (set : Params) (ev : Event) (evs : List Event) → (new : List (List ℕ)) × (selected set (ev ∷ evs) ≡ selected set evs ++ new)
selected-grows Empty ev evs = ([], refl)
selected-grows (Section p) ev evs = section_items-grow p ev evs
selected-grows (Pes p) ev evs = (picked p.output (pids ev.before) (packets_in p.input ev), refl)

-- ------ an entry by which the capture goes on

pub unstopped-all : (evs : List Event) → list_any stops evs ≡ false → unstopped evs ≡ evs
unstopped-all [] nay = refl
unstopped-all (ev ∷ evs) nay = rw nay refl

if_same : {A : Type 0} (b : Bool) (x : A) → (if b then x else x) ≡ x
if_same true x = refl
if_same false x = refl

none_length : (xs : List (List ℕ)) → is_empty xs ≡ nat_eq (length xs) 0
none_length [] = refl
none_length (x ∷ xs) = grind (arith, nat_tests)

-- without a timeout there is no expiry
off_none : (h : History) → nat_eq (timeout_of (params h)) 0 ≡ true → expiry h ≡ None
unfolding expiry
off_none h off = rw off refl

-- until it expires the filter is offered all that is live
items_live : (h : History) → expiry h ≡ None → items h ≡ selected (params h) (live h)
unfolding items offered
items_live h none = rw none refl

pub offered_unexpired : (h : History) → expired h ≡ None → offered h ≡ live h
unfolding expired offered
offered_unexpired h is = by_expiry (expiry h) refl where
  by_expiry : (o : Option Expiry) → expiry h ≡ o → offered_of (live h) (expiry h) ≡ live h
  by_expiry None none = rw none refl
  by_expiry (Some x) some = absurd (let k : Some x.now ≡ None = rw some at is in cc)

pub items_unexpired : (h : History) → expired h ≡ None → items h ≡ selected (params h) (live h)
unfolding items
items_unexpired h is = rw (offered_unexpired h is) refl

-- an event without packets selects nothing more
selected-quiet : (set : Params) (ev : Event) (evs : List Event) → ((input : Input) → packets_in input ev ≡ []) → selected set (ev ∷ evs) ≡ selected set evs
unfolding section_items
selected-quiet Empty ev evs quiet = refl
selected-quiet (Section p) ev evs quiet = rw (quiet Frontend, append-nil (packets_of Frontend evs)) refl
selected-quiet (Pes p) ev evs quiet = rw (quiet p.input) (append-nil (selected (Pes p) evs))

module _ (e : Entry) (h : History) (t s : Since) (stays : Stays e h) (held : tenure h ≡ Some t) (runs : capture h ≡ Some s) where
  pub capture_more : capture (e ∷ h) ≡ Some (more (event e h) s)
  capture_more = capture_stays e h t stays held ∙ ap (also (event e h)) runs

  pub started_stays : started (e ∷ h) ≡ started h
  unfolding started
  started_stays = rw (capture_more, runs) refl

  pub is_stopped_after : is_stopped (e ∷ h) ≡ (stops (event e h) || is_stopped h)
  unfolding is_stopped
  is_stopped_after = rw (capture_more, runs) refl

  pub is_told_after : is_told (e ∷ h) ≡ (tells_timeout (event e h) || is_told h)
  unfolding is_told
  is_told_after = rw (capture_more, runs) refl

  live_stopped : is_stopped (e ∷ h) ≡ true → live (e ∷ h) ≡ live h
  unfolding live is_stopped
  live_stopped yea = let y : list_any stops (event e h ∷ s.after) ≡ true = rw capture_more at yea in rw (capture_more, runs, y) refl

  live_more : is_stopped (e ∷ h) ≡ false → live (e ∷ h) ≡ event e h ∷ live h
  unfolding live is_stopped
  live_more nay =
      let n : list_any stops (event e h ∷ s.after) ≡ false = rw capture_more at nay in
      let all : unstopped s.after ≡ s.after = unstopped-all s.after (or_parts (stops (event e h)) (list_any stops s.after) n).1 in
      rw (capture_more, runs, n, all) refl

  expiry_stopped : is_stopped (e ∷ h) ≡ true → expiry (e ∷ h) ≡ expiry h
  unfolding expiry
  expiry_stopped yea = rw (params_stays e h t stays held, started_stays, live_stopped yea) refl

  pub expired_stopped : is_stopped (e ∷ h) ≡ true → expired (e ∷ h) ≡ expired h
  unfolding expired
  expired_stopped yea = rw (expiry_stopped yea) refl

  pub offered_stopped : is_stopped (e ∷ h) ≡ true → offered (e ∷ h) ≡ offered h
  unfolding offered
  offered_stopped yea = rw (live_stopped yea, expiry_stopped yea) refl

  pub items_stopped : is_stopped (e ∷ h) ≡ true → items (e ∷ h) ≡ items h
  unfolding items
  items_stopped yea = rw (params_stays e h t stays held, offered_stopped yea) refl

  -- while it isn't stopped
  module _ (nay : is_stopped (e ∷ h) ≡ false) where
    expiry_off : nat_eq (timeout_of (params h)) 0 ≡ true → expiry (e ∷ h) ≡ None
    unfolding expiry
    expiry_off off = rw (params_stays e h t stays held, off) refl

    expiry_on : nat_eq (timeout_of (params h)) 0 ≡ false → expiry (e ∷ h) ≡ expiry_next (params h) (started h + timeout_of (params h)) (event e h) (live h) (expiry h)
    unfolding expiry
    expiry_on on = rw (params_stays e h t stays held, started_stays, live_more nay, on) refl

    -- an expiry stays the first
    expiry_kept : (x : Expiry) → expiry h ≡ Some x → expiry (e ∷ h) ≡ Some x
    expiry_kept x is = by_timeout (nat_eq (timeout_of (params h)) 0) refl where
      by_timeout : (b : Bool) → nat_eq (timeout_of (params h)) 0 ≡ b → expiry (e ∷ h) ≡ Some x
      by_timeout true off = absurd (let k : None ≡ Some x = sym (off_none h off) ∙ is in cc)
      by_timeout false on = expiry_on on ∙ rw is refl

    -- with no expiry before, it is this event's
    expiry_here : (x : Expiry) → expiry h ≡ None → expiry (e ∷ h) ≡ Some x → x.before ≡ live h
    expiry_here x none is = by_timeout (nat_eq (timeout_of (params h)) 0) refl where
      here : (b : Bool) (now : Option ℕ) (due : ℕ) → (if b then expiry_at due now (live h) else None) ≡ Some x → x.before ≡ live h
      here true (Some m) due is = by_due (nat_le due m) is where
        by_due : (b : Bool) → (if b then Some (record { now = m; before = live h }) else None) ≡ Some x → x.before ≡ live h
        by_due true is = let k : record { now = m; before = live h } ≡ x = cc in sym (ap (λ y. y.before) k)
        by_due false is = absurd (cc)
      here true None due is = absurd (cc)
      here false now due is = absurd (cc)

      by_timeout : (b : Bool) → nat_eq (timeout_of (params h)) 0 ≡ b → x.before ≡ live h
      by_timeout true off = absurd (let k : None ≡ Some x = sym (expiry_off off) ∙ is in cc)
      by_timeout false on =
          let k : expiry_next (params h) (started h + timeout_of (params h)) (event e h) (live h) None ≡ Some x = rw (expiry_on on, none) at is in
          here (is_empty (selected (params h) (live h))) (clock_of (event e h)) (started h + timeout_of (params h)) k

    -- no expiry with this event, so none before
    expiry_before : expiry (e ∷ h) ≡ None → expiry h ≡ None
    expiry_before none = by_expiry (expiry h) refl where
      by_expiry : (o : Option Expiry) → expiry h ≡ o → expiry h ≡ None
      by_expiry None is = is
      by_expiry (Some x) is = absurd (let k : None ≡ Some x = sym none ∙ expiry_kept x is in cc)

    -- the event that expires the filter, and all after it, offer nothing
    offered_expired : (x : Expiry) → expiry (e ∷ h) ≡ Some x → offered (e ∷ h) ≡ offered h
    unfolding offered
    offered_expired x is = by_expiry (expiry h) refl where
      by_expiry : (o : Option Expiry) → expiry h ≡ o → offered_of (live (e ∷ h)) (expiry (e ∷ h)) ≡ offered_of (live h) (expiry h)
      by_expiry None none = rw (is, none) (expiry_here x none is)
      by_expiry (Some y) some = rw (expiry_kept y some, some) refl

    offered_next : expiry (e ∷ h) ≡ None → offered (e ∷ h) ≡ event e h ∷ offered h
    unfolding offered
    offered_next none = rw (none, live_more nay, expiry_before none) refl

    -- by the moment of the expiry
    pub offered_after_expiry : (m : ℕ) → expired (e ∷ h) ≡ Some m → offered (e ∷ h) ≡ offered h
    unfolding expired
    offered_after_expiry m is = by_expiry (expiry (e ∷ h)) refl where
      by_expiry : (o : Option Expiry) → expiry (e ∷ h) ≡ o → offered (e ∷ h) ≡ offered h
      by_expiry None none = absurd (let k : None ≡ Some m = rw none at is in cc)
      by_expiry (Some x) some = offered_expired x some

    pub items_after_expiry : (m : ℕ) → expired (e ∷ h) ≡ Some m → items (e ∷ h) ≡ items h
    unfolding items
    items_after_expiry m is = rw (params_stays e h t stays held, offered_after_expiry m is) refl

    pub offered_more : expired (e ∷ h) ≡ None → offered (e ∷ h) ≡ event e h ∷ offered h
    unfolding expired
    offered_more is = by_expiry (expiry (e ∷ h)) refl where
      by_expiry : (o : Option Expiry) → expiry (e ∷ h) ≡ o → offered (e ∷ h) ≡ event e h ∷ offered h
      by_expiry None none = offered_next none
      by_expiry (Some x) some = absurd (let k : Some x.now ≡ None = rw some at is in cc)

    pub expired_before : expired (e ∷ h) ≡ None → expired h ≡ None
    unfolding expired
    expired_before is = by_expiry (expiry (e ∷ h)) refl where
      by_expiry : (o : Option Expiry) → expiry (e ∷ h) ≡ o → option_map (λ (x : Expiry). x.now) (expiry h) ≡ None
      by_expiry None none = rw (expiry_before none) refl
      by_expiry (Some x) some = absurd (let k : Some x.now ≡ None = rw some at is in cc)

    pub items_more : expired (e ∷ h) ≡ None → items (e ∷ h) ≡ selected (params h) (event e h ∷ live h)
    unfolding items
    items_more is = rw (params_stays e h t stays held, offered_more is, offered_unexpired h (expired_before is)) refl

    -- the moment with this event, by what was known before
    pub expired_by : expired (e ∷ h) ≡ expired_next (timeout_of (params h)) (started h) (expired h) (nat_eq (length (items h)) 0) (clock_of (event e h))
    unfolding expired
    expired_by = by_timeout (nat_eq (timeout_of (params h)) 0) refl where
      moment_at : (due : ℕ) (now : Option ℕ) (evs : List Event) → option_map (λ (x : Expiry). x.now) (expiry_at due now evs) ≡ reaches due now
      moment_at due None evs = refl
      moment_at due (Some m) evs = by_due (nat_le due m) where
        by_due : (b : Bool) → option_map (λ (x : Expiry). x.now) (if b then Some (record { now = m; before = evs }) else None) ≡ (if b then Some m else None)
        by_due true = refl
        by_due false = refl

      moment_if : (b : Bool) (due : ℕ) (now : Option ℕ) (evs : List Event) → option_map (λ (x : Expiry). x.now) (if b then expiry_at due now evs else None) ≡ (if b then reaches due now else None)
      moment_if true due now evs = moment_at due now evs
      moment_if false due now evs = refl

      by_expiry : (o : Option Expiry) → expiry h ≡ o → option_map (λ (x : Expiry). x.now) (expiry_next (params h) (started h + timeout_of (params h)) (event e h) (live h) o)
          ≡ option_or (option_map (λ (x : Expiry). x.now) o) (if nat_eq (length (items h)) 0 then reaches (started h + timeout_of (params h)) (clock_of (event e h)) else None)
      by_expiry None none =
          let k : is_empty (selected (params h) (live h)) ≡ nat_eq (length (items h)) 0 = rw (items_live h none) (none_length (selected (params h) (live h))) in
          rw k (moment_if (nat_eq (length (items h)) 0) (started h + timeout_of (params h)) (clock_of (event e h)) (live h))
      by_expiry (Some x) some = refl

      by_timeout : (b : Bool) → nat_eq (timeout_of (params h)) 0 ≡ b → option_map (λ (x : Expiry). x.now) (expiry (e ∷ h))
          ≡ expired_next (timeout_of (params h)) (started h) (option_map (λ (x : Expiry). x.now) (expiry h)) (nat_eq (length (items h)) 0) (clock_of (event e h))
      by_timeout true off = rw (expiry_off off, off) refl
      by_timeout false on = rw (expiry_on on, on) (by_expiry (expiry h) refl)

  -- The items only grow, by what arrives with this event.
  pub items_grow : (new : List (List ℕ)) × (items (e ∷ h) ≡ items h ++ new)
  items_grow = by_stop (is_stopped (e ∷ h)) refl where
    by_expiry : (nay : is_stopped (e ∷ h) ≡ false) → (o : Option ℕ) → expired (e ∷ h) ≡ o → (new : List (List ℕ)) × (items (e ∷ h) ≡ items h ++ new)
    by_expiry nay (Some m) is = ([], items_after_expiry nay m is ∙ sym (append-nil (items h)))
    by_expiry nay None is =
        let grown = selected-grows (params h) (event e h) (live h) in
        let before : items h ≡ selected (params h) (live h) = items_unexpired h (expired_before nay is) in
        (grown.0, items_more nay is ∙ (grown.1 ∙ ap (λ xs. xs ++ grown.0) (sym before)))

    by_stop : (b : Bool) → is_stopped (e ∷ h) ≡ b → (new : List (List ℕ)) × (items (e ∷ h) ≡ items h ++ new)
    by_stop true yea = ([], items_stopped yea ∙ sym (append-nil (items h)))
    by_stop false nay = by_expiry nay (expired (e ∷ h)) refl

  -- no packet passes with this event, so no item arrives
  pub items_quiet : ((input : Input) → packets_in input (event e h) ≡ []) → items (e ∷ h) ≡ items h
  items_quiet quiet = by_stop (is_stopped (e ∷ h)) refl where
    by_expiry : (nay : is_stopped (e ∷ h) ≡ false) → (o : Option ℕ) → expired (e ∷ h) ≡ o → items (e ∷ h) ≡ items h
    by_expiry nay (Some m) is = items_after_expiry nay m is
    by_expiry nay None is = items_more nay is ∙ (selected-quiet (params h) (event e h) (live h) quiet ∙ sym (items_unexpired h (expired_before nay is)))

    by_stop : (b : Bool) → is_stopped (e ∷ h) ≡ b → items (e ∷ h) ≡ items h
    by_stop true yea = items_stopped yea
    by_stop false nay = by_expiry nay (expired (e ∷ h)) refl
