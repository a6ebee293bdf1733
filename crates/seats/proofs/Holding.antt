-- Which nodes a caller has left, behind a call of its own.
use Rattle.seats.proofs.Imports.{◌≡◌, ◌≢◌, ℕ, Bool, true, false, List, [], ◌∷◌, reverse, set, Option, Some, None, inl, inr, refl, ap, sym, ◌∙◌, subst, arith, eq-eqb, slice_get, if◌then◌else◌, slice_get_within, dite, ℕ_discrete, TableId, View, KnowsItsCalls, fresh, caller_of, Facts, Ledger, NodeKind, Demux, Entry, History, event, entry_of, Invocation, act_of, Response, TapChange, is_accepted, Rules, rules_at, answer_by, with_call, done_dropping, tap_of_done, is_owned_by, May, IsLegalFor, opens, closes, Caller, IsFreshCaller, MakesEntry, IsLegalAt, at_place, set_there, set_elsewhere, one_value, HasLeft, has_then, IsOwnPass, KnowsItsNodes, ⊎_elim, ◌+◌, ◌≤◌, ◌++◌, length, length-append, option_map, append-nil, append_assoc, reverse-append, some, get_elem?, at_last, Has, has_either, at_below, prefix_at, Since, also, tenure_refused, tenure_opened, tenure_closed, tenure_also, OneMore, facts, answer, tenure, owner}
use Rattle.dmx_calls.specs.declared.node.NodeKind.TheVariants.{Dvr}
use Rattle.dmx_calls.specs.Invocation.{Open, Close}
use Rattle.dmx_calls.specs.History.{Event}

-- ------ Who owns a node, by the entries that a pass has seen
-- ------ one entry more

who_of : Option Since → Option ℕ
who_of t = option_map (λ (s : Since). s.by.entry.who) t

also_who : (ev : Event) (t : Option Since) → who_of (also ev t) ≡ who_of t
unfolding who_of
also_who ev None = refl
also_who ev (Some s) = refl

pub owner_refused : (e : Entry) (h : History) → is_accepted e.response ≡ false → owner (e ∷ h) ≡ owner h
unfolding owner tenure who_of
owner_refused e h nay = ap who_of (tenure_refused e h nay)

pub owner_opened : (e : Entry) (h : History) → is_accepted e.response ≡ true → opens (event e h) ≡ true → owner (e ∷ h) ≡ Some e.who
unfolding owner tenure who_of
owner_opened e h ok yea = ap who_of (tenure_opened e h ok yea)

pub owner_closed : (e : Entry) (h : History) → is_accepted e.response ≡ true → opens (event e h) ≡ false → closes (event e h) ≡ true → owner (e ∷ h) ≡ None
unfolding owner tenure who_of
owner_closed e h ok nay yea = ap who_of (tenure_closed e h ok nay yea)

pub owner_also : (e : Entry) (h : History) → is_accepted e.response ≡ true → opens (event e h) ≡ false → closes (event e h) ≡ false → owner (e ∷ h) ≡ owner h
unfolding owner tenure who_of
owner_also e h ok o c = ap who_of (tenure_also e h ok o c) ∙ also_who (event e h) (tenure h)

-- By a call that is no Open of its own nobody becomes the owner.
pub owner_before : (e : Entry) (h : History) (who : ℕ) → (opens (event e h) ≡ true → e.who ≢ who) → owner (e ∷ h) ≡ Some who → owner h ≡ Some who
owner_before e h who other is = by_accepted (is_accepted e.response) refl where
  by_close : is_accepted e.response ≡ true → opens (event e h) ≡ false → (b : Bool) → closes (event e h) ≡ b → owner h ≡ Some who
  by_close ok o true yea = absurd (let none : None ≡ Some who = sym (owner_closed e h ok o yea) ∙ is in cc)
  by_close ok o false nay = sym (owner_also e h ok o nay) ∙ is

  by_open : is_accepted e.response ≡ true → (b : Bool) → opens (event e h) ≡ b → owner h ≡ Some who
  by_open ok true yea = absurd (let both : Some e.who ≡ Some who = sym (owner_opened e h ok yea) ∙ is in let same : e.who ≡ who = cc in other yea same)
  by_open ok false nay = by_close ok nay (closes (event e h)) refl

  by_accepted : (b : Bool) → is_accepted e.response ≡ b → owner h ≡ Some who
  by_accepted true ok = by_open ok (opens (event e h)) refl
  by_accepted false nay = sym (owner_refused e h nay) ∙ is

-- ------ entries of others

-- a list with the newest entry first
pub turned : (ps : List Entry) (x : Entry) → reverse (ps ++ x ∷ []) ≡ x ∷ reverse ps
turned ps x = reverse-append ps (x ∷ [])

-- where none of the later entries is its own, it was the owner before them
pub owner_behind : (ps xs : List Entry) (who : ℕ) → ((k : ℕ) (x : Entry) → length ps ≤ k → get_elem? (ps ++ xs) k ≡ some x → x.who ≢ who)
    → owner (reverse (ps ++ xs)) ≡ Some who → owner (reverse ps) ≡ Some who
owner_behind ps [] who others is = subst (λ (l : List Entry). owner (reverse l) ≡ Some who) (append-nil ps) is
owner_behind ps (x ∷ xs) who others is =
    let moved : (ps ++ x ∷ []) ++ xs ≡ ps ++ x ∷ xs = append_assoc ps (x ∷ []) xs in
    let long : length (ps ++ x ∷ []) ≡ length ps + 1 = length-append ps (x ∷ []) in
    let later : owner (reverse (ps ++ x ∷ [])) ≡ Some who = owner_behind (ps ++ x ∷ []) xs who
    (λ k y low at. others k y (omega arith) (subst (λ (l : List Entry). get_elem? l k ≡ some y) moved at)) (subst (λ (l : List Entry). owner (reverse l) ≡ Some who) (sym moved) is) in
    let here : get_elem? (ps ++ x ∷ xs) (length ps) ≡ some x = prefix_at (ps ++ x ∷ []) (ps ++ x ∷ xs) (length ps) x (xs, moved) (at_last ps x (length ps) refl) in
    owner_before x (reverse ps) who (λ opened. others (length ps) x (omega arith) here) (subst (λ (h : List Entry). owner h ≡ Some who) (turned ps x) later)

-- ------ one call of a pass

module _ (who : ℕ) (S : List Entry → Type 0) (e : Entry) (place : ℕ) (p q : TableId × View Entry) (more : OneMore caller_of S e place p q) (k : IsOwnPass who p) where
  pub still_own : IsOwnPass who q
  still_own = record { number = more.same.1 ∙ k.number; numbers = more.same.2 ∙ k.numbers; calls = more.calls }

  -- what came between what it had seen and its call is others'
  others : (j : ℕ) (x : Entry) → length p.1.seen ≤ j → get_elem? more.before j ≡ some x → x.who ≢ who
  others j x low at is =
      let there : get_elem? q.1.seen j ≡ some x = subst (λ (l : List Entry). get_elem? l j ≡ some x) (sym more.now) (prefix_at more.before (more.before ++ e ∷ []) j x (e ∷ [], refl) at) in
      let mine : Has q.1.numbers (caller_of x) = subst (λ (ns : List ℕ). Has ns (caller_of x)) (sym still_own.numbers) (inl (sym is)) in
      let told : Has {A = ℕ × ℕ} (p.1.own ++ (p.1.number, place) ∷ []) (caller_of x, j) = subst (λ (l : List (ℕ × ℕ)). Has {A = ℕ × ℕ} l (caller_of x, j)) more.told ((more.calls.only j x there).1 mine) in
      ⊎_elim
      (λ old. let s = k.calls.there (caller_of x) j old in let below = at_below p.1.seen j s.0 s.1 in omega arith)
      (λ last. this_place last)
      (has_either p.1.own ((p.1.number, place) ∷ []) (caller_of x, j) told) where
        this_place : Has {A = ℕ × ℕ} ((p.1.number, place) ∷ []) (caller_of x, j) → ⊥
        this_place last = ⊎_elim
            (λ same. let here : place ≡ j = ap (λ (z : ℕ × ℕ). z.1) same in let below = at_below more.before j x at in let end = more.at in omega arith)
            (λ none. none)
            last

  -- where it was the owner before its call, it was so when it had looked last
  pub owned_before : owner (reverse more.before) ≡ Some who → owner (reverse p.1.seen) ≡ Some who
  owned_before is =
      let rest = more.seen.0 in let whole : p.1.seen ++ rest ≡ more.before = more.seen.1 in
      owner_behind p.1.seen rest who (λ j x low at. others j x low (subst (λ (l : List Entry). get_elem? l j ≡ some x) whole at))
      (subst (λ (l : List Entry). owner (reverse l) ≡ Some who) (sym whole) is)

  -- behind it, by the newest entry
  pub behind : (o : Option ℕ) → owner (reverse q.1.seen) ≡ o → owner (e ∷ reverse more.before) ≡ o
  behind o is = subst (λ (h : List Entry). owner h ≡ o) (turned more.before e) (subst (λ (l : List Entry). owner (reverse l) ≡ o) more.now is)

  -- a call that is no Open gives it no node
  pub owned_still : opens (event e (reverse more.before)) ≡ false → owner (reverse q.1.seen) ≡ Some who → owner (reverse p.1.seen) ≡ Some who
  owned_still nay is = owned_before (owner_before e (reverse more.before) who (λ yea. absurd (let both : true ≡ false = sym yea ∙ nay in cc)) (behind (Some who) is))

-- ------ calls

no_open : (e : Entry) (h : History) (call : Invocation) → e.invocation ≡ call → opens (event (entry_of 0 call e.response) []) ≡ false → opens (event e h) ≡ false
no_open e h call is nay = rw is nay

not_open : (e : Entry) (h : History) (call : Invocation) → e.invocation ≡ call → call ≢ Open → opens (event e h) ≡ false
not_open e h Open is other = absurd (other refl)
not_open e h call is other = no_open e h call is refl

is_close : (e : Entry) (h : History) → e.invocation ≡ Close → closes (event e h) ≡ true
is_close e h is = rw is refl

owner_of_none : owner [] ≡ None
unfolding owner tenure
owner_of_none = refl

is_dropping : (l : Option Ledger) (t : TapChange) → is_accepted (done_dropping l t) ≡ true
is_dropping None t = refl
is_dropping (Some l) t = refl

-- the owner's Close is done
close_answered : (kind : NodeKind) (f g : Facts) (who : ℕ) → f.owner ≡ Some who → is_accepted (answer_by kind f g who Close) ≡ true
close_answered Demux f g who is = rw (ap (is_owned_by who) is ∙ eq-eqb who who refl) (is_dropping f.ledger (tap_of_done f Close g))
close_answered Dvr f g who is = rw (ap (is_owned_by who) is ∙ eq-eqb who who refl) (is_dropping f.ledger (tap_of_done f Close g))

close_accepted : (node : Rules) (h : History) (who : ℕ) (r : Response) → owner h ≡ Some who → May node h who Close r → is_accepted r ≡ true
unfolding answer facts
close_accepted node h who r is (inl same) = ap is_accepted same ∙ close_answered node.kind (facts node h) (facts node (with_call h who Close)) who is
close_accepted node h who r is (inr (none, done, takes)) = absurd (cc takes)

-- ------ one call

module _ (c d : Caller) (node place : ℕ) (e : Entry) (o : MakesEntry node e place c.passes d.passes) (who : d.who ≡ c.who) (own : (i : ℕ) (p : TableId × View Entry) → slice_get c.passes i ≡ Some p → IsOwnPass c.who p) where
  its_pass : IsOwnPass c.who o.first
  its_pass = own node o.first o.was

  there : slice_get d.passes node ≡ Some o.then
  there = ap (λ (l : List (TableId × View Entry)). slice_get l node) o.is ∙ set_there c.passes node o.then (slice_get_within c.passes node o.first o.was)

  elsewhere : (i : ℕ) → i ≢ node → slice_get d.passes i ≡ slice_get c.passes i
  elsewhere i n = ap (λ (l : List (TableId × View Entry)). slice_get l i) o.is ∙ set_elsewhere c.passes node i o.then n

  pub own_then : (i : ℕ) (q : TableId × View Entry) → slice_get d.passes i ≡ Some q → IsOwnPass d.who q
  own_then i q at = subst (λ (w : ℕ). IsOwnPass w q) (sym who) (dite (ℕ_discrete i node)
      (λ here. let same : o.then ≡ q = one_value d.passes node o.then q there (ap (slice_get d.passes) (sym here) ∙ at) in
      subst (IsOwnPass c.who) same (still_own c.who (IsLegalAt node) e place o.first o.then o.more its_pass))
      (λ more. own i q (sym (elsewhere i more) ∙ at)))

  -- where a fact holds of what the pass of this node has seen, it has left the node
  left_here : owner (reverse o.then.1.seen) ≢ Some c.who → HasLeft node d
  left_here differs q at is =
      let same : o.then ≡ q = one_value d.passes node o.then q there at in
      differs (subst (λ (z : TableId × View Entry). owner (reverse z.1.seen) ≡ Some c.who) (sym same) (is ∙ ap (λ (w : ℕ). Some w) who))

  left_elsewhere : (i : ℕ) → i ≢ node → HasLeft i c → HasLeft i d
  left_elsewhere i n l q at is = l q (sym (elsewhere i n) ∙ at) (is ∙ ap (λ (w : ℕ). Some w) who)

  -- a node that it had left, by a call that is no Open
  pub left_still : opens (event e (reverse o.more.before)) ≡ false → (i : ℕ) → HasLeft i c → HasLeft i d
  left_still nay i l = dite (ℕ_discrete i node)
      (λ here. subst (λ (n : ℕ). HasLeft n d) (sym here) (left_here (λ is. l o.first (ap (slice_get c.passes) here ∙ o.was) (owned_still c.who (IsLegalAt node) e place o.first o.then o.more its_pass nay is))))
      (λ more. left_elsewhere i more l)

  -- where the reply says that the call changed nothing
  left_refused : is_accepted e.response ≡ false → HasLeft node c → HasLeft node d
  left_refused nay l = left_here (λ is. l o.first o.was (owned_before c.who (IsLegalAt node) e place o.first o.then o.more its_pass
      (sym (owner_refused e (reverse o.more.before) nay) ∙ behind c.who (IsLegalAt node) e place o.first o.then o.more its_pass (Some c.who) is)))

  -- what the history allows to the newest entry
  allowed : May (rules_at node) (reverse o.more.before) e.who e.invocation e.response
  allowed = (subst (λ (h : History). IsLegalFor (rules_at node) h) (turned o.more.before e) (subst (λ (l : List Entry). IsLegalFor (rules_at node) (reverse l)) o.more.now o.more.meant)).1

  -- behind a Close it has left the node, whatever the reply
  module _ (mine : e.who ≡ c.who) where
    pub left_closed : e.invocation ≡ Close → HasLeft node d
    left_closed closing = left_here (λ is. by_reply (is_accepted e.response) refl (behind c.who (IsLegalAt node) e place o.first o.then o.more its_pass (Some c.who) is)) where
      by_reply : (b : Bool) → is_accepted e.response ≡ b → owner (e ∷ reverse o.more.before) ≡ Some c.who → ⊥
      by_reply true ok is =
          let none : None ≡ Some c.who = sym (owner_closed e (reverse o.more.before) ok (no_open e (reverse o.more.before) Close closing refl) (is_close e (reverse o.more.before) closing)) ∙ is in cc
      by_reply false nay is =
          let owned : owner (reverse o.more.before) ≡ Some c.who = sym (owner_refused e (reverse o.more.before) nay) ∙ is in
          let may : May (rules_at node) (reverse o.more.before) c.who Close e.response = subst (λ (call : Invocation). May (rules_at node) (reverse o.more.before) c.who call e.response) closing (subst (λ (w : ℕ). May (rules_at node) (reverse o.more.before) w e.invocation e.response) mine allowed) in
          let yea : is_accepted e.response ≡ true = close_accepted (rules_at node) (reverse o.more.before) c.who e.response owned may in
          let both : true ≡ false = sym yea ∙ nay in cc

    -- a node that isn't marked as held behind the call
    left_marked : (call : Invocation) → e.invocation ≡ call → (had : Bool) → (had ≡ false → HasLeft node c) → has_then had (act_of call) e.response ≡ false → HasLeft node d
    left_marked Open is had l marked = by_reply (is_accepted e.response) refl where
      by_reply : (b : Bool) → is_accepted e.response ≡ b → HasLeft node d
      by_reply true ok = absurd (let both : true ≡ false = sym (ap (λ b. if b then true else had) ok) ∙ marked in cc)
      by_reply false nay = left_refused nay (l (sym (ap (λ b. if b then true else had) nay) ∙ marked))
    left_marked Close is had l marked = left_closed is
    left_marked call is had l marked = left_still (no_open e (reverse o.more.before) call is refl) node (l marked)

    pub knows_then : (held : List Bool) → KnowsItsNodes c held → (had : Bool) → slice_get held node ≡ Some had → KnowsItsNodes d (set held node (has_then had (act_of e.invocation) e.response))
    knows_then held k had was = record {
      own = own_then;
      left = λ i at. dite (ℕ_discrete i node)
          (λ here. let now = set_there held node (has_then had (act_of e.invocation) e.response) (slice_get_within held node had was) in
          let both : Some (has_then had (act_of e.invocation) e.response) ≡ Some false = sym now ∙ (ap (slice_get (set held node (has_then had (act_of e.invocation) e.response))) (sym here) ∙ at) in
          let marked : has_then had (act_of e.invocation) e.response ≡ false = cc in
          subst (λ (n : ℕ). HasLeft n d) (sym here) (left_marked e.invocation refl had (λ none. k.left node (was ∙ ap (λ (b : Bool). Some b) none)) marked))
          (λ more. left_elsewhere i more (k.left i (sym (set_elsewhere held node i (has_then had (act_of e.invocation) e.response) more) ∙ at)));
    }

-- ------ for a caller that is told only what it has called

-- a call that is no Open
pub left_call : (c d : Caller) (node place : ℕ) (e : Entry) (o : MakesEntry node e place c.passes d.passes) (who : d.who ≡ c.who) (own : (i : ℕ) (p : TableId × View Entry) → slice_get c.passes i ≡ Some p → IsOwnPass c.who p)
    → e.invocation ≢ Open → (i : ℕ) → HasLeft i c → HasLeft i d
left_call c d node place e o who own other = left_still c d node place e o who own (not_open e (reverse o.more.before) e.invocation refl other)

-- a Close of its own
pub closed_call : (c d : Caller) (node place : ℕ) (e : Entry) (o : MakesEntry node e place c.passes d.passes) (who : d.who ≡ c.who) (own : (i : ℕ) (p : TableId × View Entry) → slice_get c.passes i ≡ Some p → IsOwnPass c.who p)
    → e.who ≡ c.who → e.invocation ≡ Close → HasLeft node d
closed_call c d node place e o who own mine closing = left_closed c d node place e o who own mine closing

-- what it knows of its nodes behind a call of its own
pub knows_made : (c d : Caller) (node place : ℕ) (e : Entry) (o : MakesEntry node e place c.passes d.passes) (who : d.who ≡ c.who) → e.who ≡ c.who → (held now : List Bool) (had : Bool) → KnowsItsNodes c held
    → slice_get held node ≡ Some had → now ≡ set held node (has_then had (act_of e.invocation) e.response) → KnowsItsNodes d now
knows_made c d node place e o who mine held now had k was is = subst (KnowsItsNodes d) (sym is) (knows_then c d node place e o who k.own mine held k had was)

-- ------ before the first call

module _ (locks : List TableId) (callers who left : ℕ) (c : Caller) (f : IsFreshCaller locks callers who left c) where
  fresh_pass : (i : ℕ) (p : TableId × View Entry) → slice_get c.passes i ≡ Some p → (l : TableId) × (p ≡ (l, fresh callers who))
  fresh_pass i p at =
      let low = slice_get_within c.passes i p at in let long = f.row.0 in let l = at_place locks i (omega arith) in
      (l.0, f.row.1 i l.0 p l.1 at)

  pub knows_none : (held : List Bool) → KnowsItsNodes c held
  knows_none held = record {
    own = λ i p at. let e = (fresh_pass i p at).1 in record {
      number = ap (λ (z : TableId × View Entry). z.1.number) e ∙ sym f.number;
      numbers = ap (λ (z : TableId × View Entry). z.1.numbers) e ∙ ap (λ (w : ℕ). w ∷ []) (sym f.number);
      calls = subst (λ (z : TableId × View Entry). KnowsItsCalls caller_of z.1) (sym e) record { there = λ w q none. absurd none; once = tt; only = λ q x at. absurd (cc at) };
    };
    left = λ i none p at is. let e = (fresh_pass i p at).1 in
        absurd (let nobody : owner [] ≡ Some c.who = subst (λ (z : TableId × View Entry). owner (reverse z.1.seen) ≡ Some c.who) e is in let both : None ≡ Some c.who = sym owner_of_none ∙ nobody in cc);
  }
