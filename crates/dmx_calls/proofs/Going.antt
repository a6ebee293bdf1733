-- What a history says, one entry later: tenure, what was set, the capture.
use Rattle.dmx_calls.proofs.Imports.{ℕ, ◌≡◌, refl, sym, ◌∙◌, ap, true, false, not, ◌||◌, List, [], ◌∷◌, Option, Some, None, nat_eq, unwrap_or, option_or, eqb-true, not-false, or_from, DEMUX_SIZE, Invocation, Open, Close, SetFilter, SetPes, AddPid, RemovePid, Start, Stop, SetSize, Read, Poll, Pass, End, Attach, Detach, is_accepted, Entry, Event, History, event, Since, also, after_of, newest, opens, closes, size_in, params_in, params_of, sets, first_pids, pids_with, pids_after, is_end, resizes, begins, tenure, owner, size_or, size, setting, params, pids, has_ended, capture}

-- with one event more
abbrev pub more : Event → Since → Since
more ev s = record { by = s.by; after = ev ∷ s.after }

-- just begun
abbrev pub begun : Event → Since
begun ev = record { by = ev; after = [] }

-- ------ any node

pub tenure_refused : (e : Entry) (h : History) → is_accepted e.response ≡ false → tenure (e ∷ h) ≡ tenure h
unfolding tenure
tenure_refused e h nay = rw nay refl

pub tenure_opened : (e : Entry) (h : History) → is_accepted e.response ≡ true → opens (event e h) ≡ true → tenure (e ∷ h) ≡ Some (begun (event e h))
unfolding tenure
tenure_opened e h ok yea = rw (ok, yea) refl

pub tenure_closed : (e : Entry) (h : History) → is_accepted e.response ≡ true → opens (event e h) ≡ false → closes (event e h) ≡ true → tenure (e ∷ h) ≡ None
unfolding tenure
tenure_closed e h ok nay yea = rw (ok, nay, yea) refl

-- an accepted call that is neither Open nor Close
pub tenure_also : (e : Entry) (h : History) → is_accepted e.response ≡ true → opens (event e h) ≡ false → closes (event e h) ≡ false
    → tenure (e ∷ h) ≡ also (event e h) (tenure h)
unfolding tenure
tenure_also e h ok o c = rw (ok, o, c) refl

pub tenure_after : (e : Entry) (h : History) (t : Since) → is_accepted e.response ≡ true → opens (event e h) ≡ false → closes (event e h) ≡ false
    → tenure h ≡ Some t → tenure (e ∷ h) ≡ Some (more (event e h) t)
tenure_after e h t ok o c held = tenure_also e h ok o c ∙ ap (also (event e h)) held

pub has_ended_refused : (e : Entry) (h : History) → is_accepted e.response ≡ false → has_ended (e ∷ h) ≡ has_ended h
unfolding has_ended
has_ended_refused e h nay = rw nay refl

pub has_ended_after : (e : Entry) (h : History) → is_accepted e.response ≡ true → has_ended (e ∷ h) ≡ (is_end (event e h) || has_ended h)
unfolding has_ended
has_ended_after e h ok = rw ok refl

-- ------ in a tenure that goes on

or_default : (o q : Option ℕ) (d n : ℕ) → unwrap_or q d ≡ n → unwrap_or o n ≡ n → unwrap_or (option_or o q) d ≡ n
or_default None q d n before same = before
or_default (Some m) q d n before same = same

module _ (e : Entry) (h : History) (t : Since) (held : tenure h ≡ Some t) (longer : tenure (e ∷ h) ≡ Some (more (event e h) t)) where
  pub owner_after : owner (e ∷ h) ≡ owner h
  unfolding owner
  owner_after = rw (longer, held) refl

  pub size_or_after : (d : ℕ) → unwrap_or (size_in (event e h)) (size_or d h) ≡ size_or d h → size_or d (e ∷ h) ≡ size_or d h
  unfolding size_or
  size_or_after d same = rw longer (or_default (size_in (event e h)) (newest size_in t.after) d (size_or d h) (rw held refl) same)

  pub size_after : unwrap_or (size_in (event e h)) (size h) ≡ size h → size (e ∷ h) ≡ size h
  unfolding size
  size_after same = size_or_after DEMUX_SIZE same

  pub size_set : (n : ℕ) → size_in (event e h) ≡ Some n → size (e ∷ h) ≡ n
  unfolding size size_or
  size_set n is = rw (longer, is) refl

  pub setting_after : sets (event e h) ≡ false → setting (e ∷ h) ≡ also (event e h) (setting h)
  unfolding setting
  setting_after nay = rw (longer, held, nay) refl

  pub setting_begun : sets (event e h) ≡ true → setting (e ∷ h) ≡ Some (begun (event e h))
  unfolding setting
  setting_begun yea = rw (longer, yea) refl

  params_also : (o : Option Since) → params_of (also (event e h) o) ≡ params_of o
  params_also None = refl
  params_also (Some s) = refl

  pub params_after : sets (event e h) ≡ false → params (e ∷ h) ≡ params h
  unfolding params
  params_after nay = rw (setting_after nay) (params_also (setting h))

  pub params_set : sets (event e h) ≡ true → params (e ∷ h) ≡ params_in (event e h)
  unfolding params
  params_set yea = rw (setting_begun yea) refl

  pids_also : (ps : List ℕ) (o : Option Since) → pids_with (event e h) (pids_after ps (after_of o)) ≡ pids_after ps (after_of o)
      → pids_after ps (after_of (also (event e h) o)) ≡ pids_after ps (after_of o)
  pids_also ps None same = refl
  pids_also ps (Some s) same = same

  pub pids_after_same : sets (event e h) ≡ false → pids_with (event e h) (pids h) ≡ pids h → pids (e ∷ h) ≡ pids h
  unfolding pids
  pids_after_same nay same = rw (params_after nay, setting_after nay) (pids_also (first_pids (params h)) (setting h) same)

  -- an AddPid or RemovePid
  pub pids_changed : (s : Since) → setting h ≡ Some s → sets (event e h) ≡ false → pids (e ∷ h) ≡ pids_with (event e h) (pids h)
  unfolding pids
  pids_changed s is nay =
      let before : pids h ≡ pids_after (first_pids (params h)) s.after = rw is refl in
      rw (params_after nay, setting_after nay, is) (ap (pids_with (event e h)) (sym before))

  pub pids_set : sets (event e h) ≡ true → pids (e ∷ h) ≡ first_pids (params_in (event e h))
  unfolding pids
  pids_set yea = rw (params_set yea, setting_begun yea) refl

  pub capture_begun : begins (event e h) ≡ true → capture (e ∷ h) ≡ Some (begun (event e h))
  unfolding capture
  capture_begun yea = rw (longer, yea) refl

  pub capture_broken : begins (event e h) ≡ false → (sets (event e h) || resizes (event e h)) ≡ true → capture (e ∷ h) ≡ None
  unfolding capture
  capture_broken nay yea = rw (longer, nay, yea) refl

  pub capture_also : begins (event e h) ≡ false → (sets (event e h) || resizes (event e h)) ≡ false → capture (e ∷ h) ≡ also (event e h) (capture h)
  unfolding capture
  capture_also nay neither = rw (longer, held, nay, neither) refl

-- a filter is set where its params aren't empty
pub setting_some : (h : History) → (params h ≡ params_of None → ⊥) → (s : Since) × (setting h ≡ Some s)
unfolding params
setting_some h set = by_setting (setting h) refl where
  by_setting : (o : Option Since) → setting h ≡ o → (s : Since) × (setting h ≡ Some s)
  by_setting None none = absurd (set (rw none refl))
  by_setting (Some s) some = (s, some)

-- ------ entries by which a tenure and its capture go on

-- An accepted call that neither begins nor ends a tenure or a capture of a demux node.
pub record Stays (e : Entry) (h : History) : Type 0 where
  pub ok : is_accepted e.response ≡ true
  pub no_open : opens (event e h) ≡ false
  pub no_close : closes (event e h) ≡ false
  pub no_begin : begins (event e h) ≡ false
  pub no_set : sets (event e h) ≡ false
  pub no_resize : resizes (event e h) ≡ false

module _ (e : Entry) (h : History) (t : Since) (stays : Stays e h) (held : tenure h ≡ Some t) where
  pub tenure_stays : tenure (e ∷ h) ≡ Some (more (event e h) t)
  tenure_stays = tenure_after e h t stays.ok stays.no_open stays.no_close held

  pub owner_stays : owner (e ∷ h) ≡ owner h
  owner_stays = owner_after e h t held tenure_stays

  size_same : (call : Invocation) → e.invocation ≡ call → unwrap_or (size_in (event e h)) (size h) ≡ size h
  size_same Open is = rw is refl
  size_same Close is = rw is refl
  size_same (SetFilter p now) is = rw is refl
  size_same (SetPes p now) is = rw is refl
  size_same (AddPid n) is = rw is refl
  size_same (RemovePid n) is = rw is refl
  size_same (Start now) is = rw is refl
  size_same Stop is = rw is refl
  size_same (SetSize n) is =
      let same : not (nat_eq n (size h)) ≡ false = rw is at stays.no_resize in
      rw is (eqb-true n (size h) (not-false (nat_eq n (size h)) same))
  size_same (Read now count) is = rw is refl
  size_same (Poll now) is = rw is refl
  size_same (Pass i first ps now) is = rw is refl
  size_same End is = rw is refl
  size_same (Attach n ps) is = rw is refl
  size_same (Detach n) is = rw is refl

  pub size_stays : size (e ∷ h) ≡ size h
  size_stays = size_after e h t held tenure_stays (size_same e.invocation refl)

  pub params_stays : params (e ∷ h) ≡ params h
  params_stays = params_after e h t held tenure_stays stays.no_set

  pub capture_stays : capture (e ∷ h) ≡ also (event e h) (capture h)
  capture_stays = capture_also e h t held tenure_stays stays.no_begin (or_from (sets (event e h)) (resizes (event e h)) stays.no_set stays.no_resize)

-- nothing in a node without an owner
pub owner_none : (h : History) → owner h ≡ None → tenure h ≡ None
unfolding owner
owner_none h is = by_tenure (tenure h) refl where
  by_tenure : (o : Option Since) → tenure h ≡ o → tenure h ≡ None
  by_tenure None none = none
  by_tenure (Some t) some = absurd (let k : Some t.by.entry.who ≡ None = rw some at is in cc)

pub owner_some : (h : History) (who : ℕ) → owner h ≡ Some who → (t : Since) × (tenure h ≡ Some t)
unfolding owner
owner_some h who is = by_tenure (tenure h) refl where
  by_tenure : (o : Option Since) → tenure h ≡ o → (t : Since) × (tenure h ≡ Some t)
  by_tenure None none = absurd (let k : None ≡ Some who = rw none at is in cc)
  by_tenure (Some t) some = (t, some)
