-- The laws of histories.
use Rattle.node_laws.proofs.Imports.{ℕ, ◌+◌, ◌-◌, ◌<◌, ◌≤◌, ◌≡◌, refl, sym, ◌∙◌, ap, subst, Bool, true, false, not, List, [], ◌∷◌, ◌++◌, Option, Some, None, length, length-append, arith, append_assoc, inl, reverse, map, if◌then◌else◌, is_some, nat_eq, nat_lt, option_or, append-nil, reverse-append, nat_tests, Invocation, Open, Close, SetFilter, SetPes, AddPid, RemovePid, Start, Stop, SetSize, Read, Poll, Pass, End, Attach, Detach, KeepTap, Response, Done, Busy, is_accepted, TapChange, Entry, Event, History, entry_of, event, Since, after_of, tenure, capture, Rules, demux, dvr, Misfit, misfit, misfit_at, is_overflow, over_in, total, answered, Facts, answer, done_dropping, response_to, with_call, May, IsLegalFor, DropsRest, LegalIsAccounted, ItemsOnlyGrow, OverflowNeedsMore, PlayedIsLegal, answers, more, begun, Goes, gone, anew, onward, Keeps, demux_keeps, dvr_keeps, Fits, AllFit, IsAccounted, joined_more, dvr_capture, over, joined, facts, owner}
use Rattle.node_laws.proofs.Fitting.{allowed_response, Fits_more, AllFit_more, response_fits}
use Rattle.node_laws.proofs.Pending.{Pending, within, pending}

-- ------ A legal history is accounted, for each node that keeps its capture and items

module _ (node : Rules) where
  -- ------ each response of the capture stands

  Each : History → Type 0
  Each h = AllFit node (joined node h) (after_of (node.capture h))

  joined_of : (g h : History) → node.items g ≡ node.items h → joined node g ≡ joined node h
  unfolding joined
  joined_of g h is = rw is refl

  module _ (keeps : Keeps node) where
    each_accepted : (e : Entry) (h : History) → Goes node e h → Each h → Fits node (joined node h) h e.response → Each (e ∷ h)
    unfolding Each
    each_accepted e h (gone is) each fit = rw is tt
    each_accepted e h (anew is) each fit = rw is tt
    each_accepted e h (onward s runs longer set new arrive) each fit =
        let before : AllFit node (joined node h) s.after = rw runs at each in
        let P : List ℕ → Type 0 = λ xs. AllFit node xs (event e h ∷ s.after) in
        rw longer (subst P (sym (joined_more node e h s runs longer new arrive)) (AllFit_more node (joined node h) _ s.after before, Fits_more node (joined node h) _ h e.response fit))

    each_any : (e : Entry) (h : History) → Pending node h → May node h e.who e.invocation e.response → Each h → (b : Bool) → is_accepted e.response ≡ b → Each (e ∷ h)
    unfolding Each
    each_any e h p may each true ok =
        let P : Response → Type 0 = Fits node (joined node h) h in
        each_accepted e h (keeps.accepted e h ok) each (subst P (sym (allowed_response node h e.who e.invocation e.response may ok)) (response_fits node h p.le (within node h p) (facts node (with_call h e.who e.invocation)) e.invocation))
    each_any e h p may each false nay =
        let same = keeps.refused e h nay in
        rw (same.0, joined_of (e ∷ h) h same.1) each

    each : (h : History) → IsLegalFor node h → Each h
    unfolding Each
    each [] legal = rw keeps.empty tt
    each (e ∷ h) legal = each_any e h (pending node keeps h legal.0) legal.1 (each h legal.0) (is_accepted e.response) refl

    each_whole : (h : History) → IsLegalFor node h → AllFit node (joined node h) (after_of (node.capture h))
    unfolding Each
    each_whole h legal = each h legal

    pub accounted : ((e : Entry) (h : History) → May node h e.who e.invocation e.response → DropsRest node e h) → (h : History) → IsLegalFor node h → IsAccounted node h
    accounted drops [] legal = tt
    accounted drops (e ∷ h) legal = (accounted drops h legal.0, drops e h legal.1, each_whole (e ∷ h) legal)

-- ------ what ends a capture drops the rest

other_size : (b : Bool) (x y : Response) → not b ≡ true → (if b then x else y) ≡ y
other_size true x y k = absurd (cc)
other_size false x y k = refl

module _ (node : Rules) (h : History) (s : Since) (runs : node.capture h ≡ Some s) where
  dropped_of : (tap : TapChange) → done_dropping (facts node h).ledger tap ≡ Done (answered node h) (total node h) tap
  unfolding facts
  dropped_of tap = rw runs refl

  -- the response of a SetSize to another size
  resized_of : (n : ℕ) (g : Facts) → not (nat_eq n (node.size h)) ≡ true → (tap : TapChange) × (response_to (facts node h) g (SetSize n) ≡ Done (answered node h) (total node h) tap)
  unfolding facts
  resized_of n g other = (_, other_size (nat_eq n (node.size h)) (Done 0 0 KeepTap) _ other ∙ dropped_of _)

demux_drops : (h : History) (s : Since) (g : Facts) (who : ℕ) (call : Invocation) (r : Response) → capture h ≡ Some s
    → demux.ends_capture (event (entry_of who call r) h) ≡ true
    → (tap : TapChange) × (response_to (facts demux h) g call ≡ Done (answered demux h) (total demux h) tap)
demux_drops h s g who Open r is ends = absurd (cc)
demux_drops h s g who Close r is ends = (_, dropped_of demux h s is _)
demux_drops h s g who (SetFilter p now) r is ends = (_, dropped_of demux h s is _)
demux_drops h s g who (SetPes p now) r is ends = (_, dropped_of demux h s is _)
demux_drops h s g who (AddPid n) r is ends = absurd (cc)
demux_drops h s g who (RemovePid n) r is ends = absurd (cc)
demux_drops h s g who (Start now) r is ends = (_, dropped_of demux h s is _)
demux_drops h s g who Stop r is ends = absurd (cc)
demux_drops h s g who (SetSize n) r is ends = resized_of demux h s is n g ends
demux_drops h s g who (Read now count) r is ends = absurd (cc)
demux_drops h s g who (Poll now) r is ends = absurd (cc)
demux_drops h s g who (Pass i first ps now) r is ends = absurd (cc)
demux_drops h s g who End r is ends = absurd (cc)
demux_drops h s g who (Attach n ps) r is ends = absurd (cc)
demux_drops h s g who (Detach n) r is ends = absurd (cc)

demux_drops_rest : (e : Entry) (h : History) → May demux h e.who e.invocation e.response → DropsRest demux e h
demux_drops_rest e h may ok ends some = by_capture (capture h) refl some where
  by_capture : (o : Option Since) → capture h ≡ o → is_some o ≡ true → (tap : TapChange) × (e.response ≡ Done (answered demux h) (total demux h) tap)
  by_capture None is none = absurd (cc)
  by_capture (Some s) is none =
      let d = demux_drops h s (facts demux (with_call h e.who e.invocation)) e.who e.invocation e.response is ends in
      (d.0, allowed_response demux h e.who e.invocation e.response may ok ∙ d.1)

-- a dvr node that captures has an owner
dvr_owned : (h : History) (s : Since) → dvr_capture h ≡ Some s → (who : ℕ) × (owner h ≡ Some who)
unfolding dvr_capture owner
dvr_owned h s is = by_tenure (tenure h) refl where
  by_tenure : (o : Option Since) → tenure h ≡ o → (who : ℕ) × (owner h ≡ Some who)
  by_tenure None none = absurd (let k : None ≡ Some s = rw none at is in cc)
  by_tenure (Some t) held = (t.by.entry.who, rw held refl)

busy_open : (h : History) (g : Facts) (who : ℕ) → owner h ≡ Some who → response_to (facts dvr h) g Open ≡ Busy who
unfolding facts
busy_open h g who is = rw is refl

dvr_drops : (h : History) (s : Since) (g : Facts) (who : ℕ) (call : Invocation) (r : Response) → dvr_capture h ≡ Some s
    → dvr.ends_capture (event (entry_of who call r) h) ≡ true → is_accepted (response_to (facts dvr h) g call) ≡ true
    → (tap : TapChange) × (response_to (facts dvr h) g call ≡ Done (answered dvr h) (total dvr h) tap)
dvr_drops h s g who Open r is ends ok =
    let own = dvr_owned h s is in
    absurd (let k : is_accepted (Busy own.0) ≡ true = rw (busy_open h g own.0 own.1) at ok in cc)
dvr_drops h s g who Close r is ends ok = (_, dropped_of dvr h s is _)
dvr_drops h s g who (SetFilter p now) r is ends ok = absurd (cc)
dvr_drops h s g who (SetPes p now) r is ends ok = absurd (cc)
dvr_drops h s g who (AddPid n) r is ends ok = absurd (cc)
dvr_drops h s g who (RemovePid n) r is ends ok = absurd (cc)
dvr_drops h s g who (Start now) r is ends ok = absurd (cc)
dvr_drops h s g who Stop r is ends ok = absurd (cc)
dvr_drops h s g who (SetSize n) r is ends ok = resized_of dvr h s is n g ends
dvr_drops h s g who (Read now count) r is ends ok = absurd (cc)
dvr_drops h s g who (Poll now) r is ends ok = absurd (cc)
dvr_drops h s g who (Pass i first ps now) r is ends ok = absurd (cc)
dvr_drops h s g who End r is ends ok = absurd (cc)
dvr_drops h s g who (Attach n ps) r is ends ok = absurd (cc)
dvr_drops h s g who (Detach n) r is ends ok = absurd (cc)

dvr_drops_rest : (e : Entry) (h : History) → May dvr h e.who e.invocation e.response → DropsRest dvr e h
dvr_drops_rest e h may ok ends some = by_capture (dvr_capture h) refl some where
  by_capture : (o : Option Since) → dvr_capture h ≡ o → is_some o ≡ true → (tap : TapChange) × (e.response ≡ Done (answered dvr h) (total dvr h) tap)
  by_capture None is none = absurd (cc)
  by_capture (Some s) is none =
      let same = allowed_response dvr h e.who e.invocation e.response may ok in
      let d = dvr_drops h s (facts dvr (with_call h e.who e.invocation)) e.who e.invocation e.response is ends (rw same at ok) in
      (d.0, same ∙ d.1)

pub demux_accounted : LegalIsAccounted demux
demux_accounted = accounted demux demux_keeps demux_drops_rest

pub dvr_accounted : LegalIsAccounted dvr
dvr_accounted = accounted dvr dvr_keeps dvr_drops_rest

-- ------ an overflow needs more than its room

misfit_needs : (capacity number total answered : ℕ) (items : List (List ℕ)) (x : Misfit) → misfit capacity number total answered items ≡ Some x → x.room < x.need
misfit_needs capacity number total answered [] x is = absurd (cc)
misfit_needs capacity number total answered (item ∷ items) x is =
    by_room (nat_lt (capacity - (total - answered)) (length item)) refl (λ later. misfit_needs capacity (number + 1) (total + length item) answered items x later) is where
      by_room : (b : Bool) → nat_lt (capacity - (total - answered)) (length item) ≡ b
          → (misfit capacity (number + 1) (total + length item) answered items ≡ Some x → x.room < x.need)
          → (if b then Some (record { item = number; place = total; need = length item; room = capacity - (total - answered) }) else misfit capacity (number + 1) (total + length item) answered items) ≡ Some x
          → x.room < x.need
      by_room true lost later is =
          let same : record { item = number; place = total; need = length item; room = capacity - (total - answered) } ≡ x = cc in
          let more_than : capacity - (total - answered) < length item = grind (arith, nat_tests) in
          subst (λ (y : Misfit). y.room < y.need) same more_than
      by_room false fits later is = later is

over_in_needs : (node : Rules) (evs : List Event) (x : Misfit) → over_in node evs ≡ Some x → x.room < x.need
over_in_needs node [] x is = absurd (cc)
over_in_needs node (ev ∷ evs) x is = by_overflow (is_overflow ev) (λ before. over_in_needs node evs x before) is where
  by_first : (o : Option Misfit) → (o ≡ Some x → x.room < x.need) → option_or o (misfit_at node ev) ≡ Some x → x.room < x.need
  by_first None before is = misfit_needs (node.size ev.before - 1) _ (total node ev.before) (answered node ev.before) _ x is
  by_first (Some y) before is = before is

  by_overflow : (b : Bool) → (over_in node evs ≡ Some x → x.room < x.need)
      → (if b then None else option_or (over_in node evs) (misfit_at node ev)) ≡ Some x → x.room < x.need
  by_overflow true before is = absurd (cc)
  by_overflow false before is = by_first (over_in node evs) before is

pub overflow_needs_more : (node : Rules) → OverflowNeedsMore node
unfolding over
overflow_needs_more node h x is = over_in_needs node (after_of (node.capture h)) x is

-- ------ the items of a capture only grow

grown_twice : (first mid new all whole : List (List ℕ)) → whole ≡ all ++ new → all ≡ first ++ mid → whole ≡ first ++ (mid ++ new)
grown_twice first mid new all whole last before = last ∙ (ap (λ xs. xs ++ new) before ∙ append_assoc first mid new)

module _ (node : Rules) (keeps : Keeps node) where
  -- the event that began a capture has less behind it than the history has
  began_step : (e : Entry) (h : History) (s : Since) → ((u : Since) → node.capture h ≡ Some u → length u.by.before < length h)
      → Goes node e h → node.capture (e ∷ h) ≡ Some s → length s.by.before < length (e ∷ h)
  began_step e h s ih (gone none) is = absurd (let k : None ≡ Some s = sym none ∙ is in cc)
  began_step e h s ih (anew begin) is =
      let same : begun (event e h) ≡ s = let k : Some (begun (event e h)) ≡ Some s = sym begin ∙ is in cc in
      subst (λ (u : Since). length u.by.before < length (e ∷ h)) same (omega arith)
  began_step e h s ih (onward u runs longer set new arrive) is =
      let same : more (event e h) u ≡ s = let k : Some (more (event e h) u) ≡ Some s = sym longer ∙ is in cc in
      let before : length u.by.before < length h = ih u runs in
      subst (λ (v : Since). length v.by.before < length (e ∷ h)) same (omega (arith, before))

  began_any : (e : Entry) (h : History) (s : Since) → ((u : Since) → node.capture h ≡ Some u → length u.by.before < length h)
      → (b : Bool) → is_accepted e.response ≡ b → node.capture (e ∷ h) ≡ Some s → length s.by.before < length (e ∷ h)
  began_any e h s ih true ok is = began_step e h s ih (keeps.accepted e h ok) is
  began_any e h s ih false nay is = let before : length s.by.before < length h = ih s (sym (keeps.refused e h nay).0 ∙ is) in omega (arith, before)

  began_before : (h : History) (s : Since) → node.capture h ≡ Some s → length s.by.before < length h
  began_before [] s is = absurd (let k : None ≡ Some s = sym keeps.empty ∙ is in cc)
  began_before (e ∷ h) s is = began_any e h s (λ u runs. began_before h u runs) (is_accepted e.response) refl is

  module _ (h : History) (s : Since) (runs : node.capture h ≡ Some s) where
    Grown : History → Type 0
    Grown g = (t : Since) → node.capture g ≡ Some t → t.by ≡ s.by → (new : List (List ℕ)) × (node.items g ≡ node.items h ++ new)

    grown_step : (e : Entry) (g : History) → length h ≤ length g → Grown g → Goes node e g → Grown (e ∷ g)
    unfolding Grown
    grown_step e g le ih (gone none) t is by = absurd (let k : None ≡ Some t = sym none ∙ is in cc)
    grown_step e g le ih (anew begin) t is by =
        let same : begun (event e g) ≡ t = let k : Some (begun (event e g)) ≡ Some t = sym begin ∙ is in cc in
        let here : event e g ≡ s.by = ap (λ (u : Since). u.by) same ∙ by in
        let far : length g ≡ length s.by.before = ap (λ (ev : Event). length ev.before) here in
        absurd (let near : length s.by.before < length h = began_before h s runs in omega (arith, far, near, le))
    grown_step e g le ih (onward u before longer set new arrive) t is by =
        let same : more (event e g) u ≡ t = let k : Some (more (event e g) u) ≡ Some t = sym longer ∙ is in cc in
        let earlier = ih u before (ap (λ (v : Since). v.by) same ∙ by) in
        (earlier.0 ++ new, grown_twice (node.items h) earlier.0 new (node.items g) (node.items (e ∷ g)) arrive earlier.1)

    grown_any : (e : Entry) (g : History) → length h ≤ length g → Grown g → (b : Bool) → is_accepted e.response ≡ b → Grown (e ∷ g)
    unfolding Grown
    grown_any e g le ih true ok = grown_step e g le ih (keeps.accepted e g ok)
    grown_any e g le ih false nay = λ t is by.
        let same = keeps.refused e g nay in
        let earlier = ih t (sym same.0 ∙ is) by in
        (earlier.0, same.1 ∙ earlier.1)

    grown : (later : History) → Grown (later ++ h)
    unfolding Grown
    grown [] = λ t is by. ([], sym (append-nil (node.items h)))
    grown (e ∷ later) = grown_any e (later ++ h) (omega (arith, length-append later h)) (grown later) (is_accepted e.response) refl

    grown_whole : (later : History) (t : Since) → node.capture (later ++ h) ≡ Some t → t.by ≡ s.by → (new : List (List ℕ)) × (node.items (later ++ h) ≡ node.items h ++ new)
    unfolding Grown
    grown_whole later = grown later

  only_grow : ItemsOnlyGrow node
  only_grow later h s t runs is by = grown_whole h s runs later t is by

pub demux_grows : ItemsOnlyGrow demux
demux_grows = only_grow demux demux_keeps

pub dvr_grows : ItemsOnlyGrow dvr
dvr_grows = only_grow dvr dvr_keeps

-- ------ what plays is legal

played : (node : Rules) (entries : List Entry) (h : History) → IsLegalFor node h → answers node h entries ≡ map (λ (e : Entry). e.response) entries → IsLegalFor node (reverse entries ++ h)
played node [] h legal plays = legal
played node (e ∷ entries) h legal plays =
    let first : e.response ≡ answer node h e.who e.invocation = cc in
    let rest : answers node (e ∷ h) entries ≡ map (λ (e : Entry). e.response) entries = cc in
    let later = played node entries (e ∷ h) (legal, inl first) rest in
    let turned : reverse (e ∷ entries) ++ h ≡ reverse entries ++ (e ∷ h) = ap (λ es. es ++ h) (reverse-append (e ∷ []) entries) ∙ append_assoc (reverse entries) (e ∷ []) h in
    rw turned later

pub played_is_legal : (node : Rules) → PlayedIsLegal node
played_is_legal node entries plays = rw (← append-nil (reverse entries)) (played node entries [] tt plays)
