-- Each kind of step keeps the rule of the lock.
use Rattle.node_lock.proofs.Imports.{◌≡◌, ◌≢◌, ℕ, zero, suc, eqb, ◌+◌, ◌-◌, ◌%◌, ◌^◌, ◌<◌, ◌≤◌, inl, inr, ⊎_elim, List, [], ◌∷◌, ◌++◌, length, get_or, set, refl, sym, ap, ap₂, ◌∙◌, subst, arith, mod-eq_of_lt, lt_of_not-le, length-append, length-set, Option, Some, None, dite, none, some, some-injective, some-ne-none, IsPrefix, ℕ_discrete, dec_le, get_elem?, either, State, Me, Act, step, keeps, takes, gives, Valid, carried_after, stepped, Allows, Splits, Joins, Seen, Final, opening, put_back, set_else, at_longer, exchanged, Stage, Free, Drawn, Turn, Miss, View, Has, has_either, has_right, Once, up_from, tail, calls_of, out_of, IsLive, HasTicket, starting, dealt, fresh, spent, Stands, KnowsItsCalls, HasJust, KeptBegins, IsWhole, Where, home, out, lies, IsOut, EachTicketHasASeat, OneSeatHasTheTurn, MachineStands, ThereIsOneHistory, IsTrueMiss, MissesAreTrue, LockRule, drew, sees, made, took_turn, missed, split_left, split_right, joined, TellsTicket, TellsDone, TellsCalls, GetsTurn, TellsLookAt, TellsLook, TellsTry}
use Rattle.node_lock.proofs.Views.{put, put_here, put_else, lefts_set, lefts_end, lefts_at, at_below, at_there, one_member, now_here, each_set, each_end, some_set, prefix_self, prefix_more, prefix_trans, prefix_whole, longer_is, up_from_below}
use Rattle.node_lock.proofs.Bounds.{bounded_set, bounded_end, bounded_made, bounded_join}
use Rattle.node_lock.proofs.Callers.{counted_same, counted_end, counted_cut, counted_join, knows_of}

miss_more : (d : ℕ) (m : Option Miss) → IsTrueMiss d m → IsTrueMiss (d + 1) m
miss_more d None h = tt
miss_more d (Some m) h = let le : m.found ≤ d = h.1 in (h.0, (omega arith))

is_out : {M : Type 0} (p : Where M) → IsOut p → p ≡ out
is_out (home m) h = absurd h
is_out out h = refl

live_free : (st : Stage) → st ≡ Free → IsLive st
live_free st e = subst IsLive (sym e) tt

-- a history with just these calls, of what a seat with every number knows
pub just_of : {N : Type 0} (who_of : N → ℕ) (v : View N) → KnowsItsCalls who_of v → IsWhole v → HasJust who_of v.own v.seen
just_of who_of v k whole = record {
  there = k.there;
  once = k.once;
  only = λ p e at. let o = k.only p e at in o.1 (whole (who_of e) o.0);
}

-- what was seen before a join
pub joined_begins : {N : Type 0} (v w m : View N) → m ≡ joined v w → KeptBegins m → IsPrefix v.seen m.seen × IsPrefix w.seen m.seen
joined_begins {N = N} v w m e k =
    let kept : m.kept ≡ (v.kept ++ w.kept) ++ v.seen ∷ w.seen ∷ [] = ap (λ (y : View N). y.kept) e in (
      k v.seen (subst (λ (l : List (List N)). Has l v.seen) (sym kept) (has_right (v.kept ++ w.kept) (v.seen ∷ w.seen ∷ []) v.seen (inl refl))),
      k w.seen (subst (λ (l : List (List N)). Has l w.seen) (sym kept) (has_right (v.kept ++ w.kept) (v.seen ∷ w.seen ∷ []) w.seen (inr (inl refl)))),
    )

module _ {M N : Type 0} (stands : M → List N → Type 0) (who_of : N → ℕ) (callers : ℕ) where
  abbrev St : Type 0
  St = State (Option M) (View N)

  abbrev Sat : Type 0
  Sat = Me (Option M) (View N)

  abbrev Rule : St → Type 0
  Rule = LockRule stands who_of callers

  -- a seat changes, and its tickets are the same
  tickets_set : (d s : ℕ) (f : ℕ → ℕ) (views : List (View N)) → EachTicketHasASeat d s f views → (id : ℕ) (v w : View N) → get_elem? views id ≡ some v → ((t : ℕ) → HasTicket t w.stage → HasTicket t v.stage)
      → ((t : ℕ) → HasTicket t v.stage → HasTicket t w.stage) → EachTicketHasASeat d s f (set views id w)
  tickets_set d s f views q id v w at back keep = record {
    behind = q.behind;
    each_seat = each_set (λ j u. (t : ℕ) → HasTicket t u.stage → (s ≤ t) × (t < d) × (f t ≡ j)) views id w (λ t h. q.each_seat id v at t (back t h)) (λ j u _ e. q.each_seat j u e);
    each_ticket = λ t a b. some_set (λ u. HasTicket t u.stage) views id (f t) v w at (q.each_ticket t a b) (λ _ h. keep t h);
  }

  -- a seat changes, and it has the turn only as it should
  turn_set : (s i : ℕ) (p : Where M) (log : List N) (views : List (View N)) → OneSeatHasTheTurn s i p log views → (id : ℕ) (w : View N) → ((t : ℕ) → w.stage ≡ Turn t → (t ≡ s) × (id ≡ i) × IsOut p × (w.seen ≡ log))
      → OneSeatHasTheTurn s i p log (set views id w)
  turn_set s i p log views q id w mine = each_set (λ j u. (t : ℕ) → u.stage ≡ Turn t → (t ≡ s) × (j ≡ i) × IsOut p × (u.seen ≡ log)) views id w mine (λ j u _ e. q j u e)

  machine_set : (s i : ℕ) (log : List N) (views : List (View N)) (id : ℕ) (v w : View N) → get_elem? views id ≡ some v → (v.stage ≡ Turn s → w.stage ≡ Turn s)
      → (p : Where M) → MachineStands stands s i log views p → MachineStands stands s i log (set views id w) p
  machine_set s i log views id v w at keep (home m) k = k
  machine_set s i log views id v w at keep out k = some_set (λ u. u.stage ≡ Turn s) views id i v w at k (λ _ h. keep h)

  -- a seat changes, and has seen a beginning of the history
  history_set : (s i : ℕ) (p : Where M) (log : List N) (views : List (View N)) → ThereIsOneHistory stands s i p log views → (id : ℕ) (v w : View N) → get_elem? views id ≡ some v → IsPrefix w.seen log → KeptBegins w
      → (v.stage ≡ Turn s → w.stage ≡ Turn s) → ThereIsOneHistory stands s i p log (set views id w)
  history_set s i p log views h id v w at seen kept keep = record {
    long = h.long;
    each_seen = each_set (λ j u. IsPrefix u.seen log) views id w seen (λ j u _ e. h.each_seen j u e);
    each_kept = each_set (λ j u. KeptBegins u) views id w kept (λ j u _ e. h.each_kept j u e);
    machine = machine_set s i log views id v w at keep p h.machine;
    stood = h.stood;
  }

  misses_set : (d : ℕ) (views : List (View N)) → MissesAreTrue d views → (id : ℕ) (w : View N) → IsTrueMiss d w.miss → MissesAreTrue d (set views id w)
  misses_set d views h id w is = each_set (λ j u. IsTrueMiss d u.miss) views id w is (λ j u _ e. h j u e)

  -- the history is the same where a seat draws a ticket
  misses_more : (d : ℕ) (views : List (View N)) → MissesAreTrue d views → MissesAreTrue (d + 1) views
  misses_more d views h j u e = miss_more d u.miss (h j u e)

  -- what was seen after what is the whole is the whole
  whole_more : (xs ys zs : List N) → IsPrefix xs ys → IsPrefix ys zs → xs ≡ zs → ys ≡ zs
  whole_more xs ys zs p q e = prefix_whole ys zs q (let a = length-append xs p.0 in let b = ap length p.1 in let c = ap length e in omega arith)

  -- a step that changes no word and no slot, and keeps the seat's stage
  quiet : (s : St) (r : Rule s) (i id : ℕ) (cs : List (ℕ × Option M)) (v : View N) (sn : List N) (k : ℕ) (mi : Option Miss) → get_elem? s.views id ≡ some v → IsPrefix sn r.log → IsPrefix v.seen sn → IsTrueMiss r.drawn mi
      → set s.words i (get_or s.words i 0) ≡ s.words → Rule (stepped s i (get_or s.words i 0) id cs (record v { seen = sn; looks = k; miss = mi }) keeps)
  quiet s r i id cs v sn k mi at seen more miss same_words = let w : View N = record v { seen = sn; looks = k; miss = mi } in record {
    drawn = r.drawn;
    served = r.served;
    log = r.log;
    holder = r.holder;
    place = r.place;
    words_are = same_words ∙ r.words_are;
    slot_is = r.slot_is;
    budget = (let t = lefts_set s.views id v w at in let b = r.budget in omega arith);
    tickets = tickets_set r.drawn r.served r.holder s.views r.tickets id v w at (λ _ h. h) (λ _ h. h);
    turn = turn_set r.served (r.holder r.served) r.place r.log s.views r.turn id w (λ t st. let k = r.turn id v at t st in (k.0, k.1, k.2, whole_more v.seen sn r.log more seen k.3));
    history = history_set r.served (r.holder r.served) r.place r.log s.views r.history id v w at seen (λ l h. prefix_trans l v.seen sn (r.history.each_kept id v at l h) more) (λ st. st);
    calls = record {
      entries = counted_same who_of callers r.log s.views r.calls.entries id v v.stage v.left sn k mi at (λ h. h) more;
      bounds = bounded_set s.views r.calls.bounds id w (r.calls.bounds.each_small id v at) (r.calls.bounds.each_few id v at) (r.calls.bounds.each_left id v at);
    };
    misses = misses_set r.drawn s.views r.misses id w miss;
  }

  -- the words
  word0 : (s : St) (r : Rule s) → get_or s.words 0 0 ≡ r.drawn
  word0 s r = ap (λ ws. get_or ws 0 0) r.words_are

  word1 : (s : St) (r : Rule s) → get_or s.words 1 0 ≡ r.served
  word1 s r = ap (λ ws. get_or ws 1 0) r.words_are

  same_word0 : (s : St) (r : Rule s) → set s.words 0 (get_or s.words 0 0) ≡ s.words
  same_word0 s r = ap (λ ws. set ws 0 (get_or ws 0 0)) r.words_are ∙ sym r.words_are

  same_word1 : (s : St) (r : Rule s) → set s.words 1 (get_or s.words 1 0) ≡ s.words
  same_word1 s r = ap (λ ws. set ws 1 (get_or ws 1 0)) r.words_are ∙ sym r.words_are

  tells : (s : St) (r : Rule s) (id : ℕ) (v : View N) → get_elem? s.views id ≡ some v → IsLive v.stage → KnowsItsCalls who_of v
  tells s r id v at live = knows_of who_of callers r.log s.views r.calls.entries id v at live (r.history.each_seen id v at)

  -- the machine where it is known to be
  machine_at : (s : St) (r : Rule s) (p : Where M) → r.place ≡ p → MachineStands stands r.served (r.holder r.served) r.log s.views p
  machine_at s r p e = subst (MachineStands stands r.served (r.holder r.served) r.log s.views) e r.history.machine

  slot_at : (s : St) (r : Rule s) (p : Where M) → r.place ≡ p → s.homes ≡ lies p ∷ []
  slot_at s r p e = r.slot_is ∙ ap (λ (q : Where M). lies q ∷ []) e

  -- a seat with the ticket that is served is its holder
  holds_served : (s : St) (r : Rule s) (id t : ℕ) (v : View N) → get_elem? s.views id ≡ some v → HasTicket t v.stage → t ≡ r.served → r.holder r.served ≡ id
  holds_served s r id t v at has is = ap r.holder (sym is) ∙ (r.tickets.each_seat id v at t has).2

  -- the tickets where one more is drawn, by a seat that had none
  tickets_drawn : (s : St) (r : Rule s) (id : ℕ) (v w : View N) → get_elem? s.views id ≡ some v → v.stage ≡ Free → ((t : ℕ) → HasTicket t w.stage → r.drawn ≡ t) → HasTicket r.drawn w.stage
      → EachTicketHasASeat (r.drawn + 1) r.served (put r.holder r.drawn id) (set s.views id w)
  tickets_drawn s r id v w at free is has = let d : ℕ = r.drawn in let f : ℕ → ℕ = put r.holder d id in let h = r.tickets.behind in record {
    behind = (omega arith);
    each_seat = each_set (λ j u. (t : ℕ) → HasTicket t u.stage → (r.served ≤ t) × (t < d + 1) × (f t ≡ j)) s.views id w
        (λ t g. let e : d ≡ t = is t g in ((omega arith), (omega arith), put_here r.holder d id t (sym e)))
        (λ j u _ e t g. let k = r.tickets.each_seat j u e t g in let below : t < d = k.1 in (k.0, (omega arith), put_else r.holder d id t (λ e. omega arith) ∙ k.2));
    each_ticket = λ t a c. dite (ℕ_discrete t d)
        (λ last. (w, now_here s.views id (f t) v w at (put_here r.holder d id t last), subst (λ (i : ℕ). HasTicket i w.stage) (sym last) has))
        (λ early. let now = some_set (λ u. HasTicket t u.stage) s.views id (r.holder t) v w at (r.tickets.each_ticket t a (omega arith)) (λ _ g. absurd (subst (HasTicket t) free g)) in
        (now.0, subst (λ (k : ℕ). get_elem? (set s.views id w) k ≡ some now.0) (sym (put_else r.holder d id t early)) now.1, now.2));
  }

  -- a seat in turn has a ticket below the number drawn
  turn_below : (s : St) (r : Rule s) (j t : ℕ) (u : View N) → get_elem? s.views j ≡ some u → u.stage ≡ Turn t → t < r.drawn
  turn_below s r j t u e st = (r.tickets.each_seat j u e t (subst (HasTicket t) (sym st) refl)).1

  -- a ticket is drawn
  pub draws : (n id : ℕ) (me : Sat) → me.0.stage ≡ Free → 0 < me.0.left → Allows Rule n id me 0 (λ x. (x + 1) % 2 ^ 64) (λ x m. TellsTicket me x m)
  draws n id me free some_left s r wide at _ =
      let v : View N = me.0 in let d : ℕ = r.drawn in let x : ℕ = get_or s.words 0 0 in let xd : x ≡ d = word0 s r in let w : View N = drew v x in
      let b = r.budget in let mine = lefts_at s.views id v at in let t = lefts_set s.views id v w at in
      let small : d < 2 ^ 50 = omega arith in
      let next : (x + 1) % 2 ^ 64 ≡ d + 1 = ap (λ (z : ℕ). (z + 1) % 2 ^ 64) xd ∙ mod-eq_of_lt (omega arith) in
      let f : ℕ → ℕ = put r.holder d id in (
        w,
        keeps,
        tt,
        record {
          drawn = d + 1;
          served = r.served;
          log = r.log;
          holder = f;
          place = r.place;
          words_are = ap₂ (λ (ws : List ℕ) (y : ℕ). set ws 0 y) r.words_are next;
          slot_is = r.slot_is;
          budget = (omega arith);
          tickets = tickets_drawn s r id v w at free (λ t e. sym xd ∙ e) xd;
          turn = each_set (λ j u. (t : ℕ) → u.stage ≡ Turn t → (t ≡ r.served) × (j ≡ f r.served) × IsOut r.place × (u.seen ≡ r.log)) s.views id w (λ t st. absurd (cc st))
              (λ j u _ e t st. let k = r.turn j u e t st in let below = turn_below s r j t u e st in let is : t ≡ r.served = k.0 in
              (is, k.1 ∙ sym (put_else r.holder d id r.served (λ e. omega arith)), k.2, k.3));
          history = record {
            long = r.history.long;
            each_seen = each_set (λ j u. IsPrefix u.seen r.log) s.views id w (r.history.each_seen id v at) (λ j u _ e. r.history.each_seen j u e);
            each_kept = each_set (λ j u. KeptBegins u) s.views id w (r.history.each_kept id v at) (λ j u _ e. r.history.each_kept j u e);
            machine = drawn_machine s r id v w at free r.place refl;
            stood = r.history.stood;
          };
          calls = record {
            entries = counted_same who_of callers r.log s.views r.calls.entries id v (Drawn x) (v.left - 1) v.seen v.looks v.miss at (λ _. live_free v.stage free) (prefix_self v.seen);
            bounds = bounded_set s.views r.calls.bounds id w (r.calls.bounds.each_small id v at) (r.calls.bounds.each_few id v at) (let z = r.calls.bounds.each_left id v at in let y : out_of v.stage ≡ 0 = ap out_of free in omega arith);
          };
          misses = misses_set (d + 1) s.views (misses_more d s.views r.misses) id w (miss_more d v.miss (r.misses id v at));
        },
        (refl, (omega arith)),
      ) where
        drawn_machine : (s : St) (r : Rule s) (id : ℕ) (v w : View N) → get_elem? s.views id ≡ some v → v.stage ≡ Free → (p : Where M) → r.place ≡ p
            → MachineStands stands r.served (put r.holder r.drawn id r.served) r.log (set s.views id w) p
        drawn_machine s r id v w at free (home m) is = machine_at s r (home m) is
        drawn_machine s r id v w at free out is = let k = machine_at s r out is in
            let lt = turn_below s r (r.holder r.served) r.served k.0 k.1 k.2 in
            let n = machine_set r.served (r.holder r.served) r.log s.views id v w at (λ e. absurd (cc (free, e))) out k in
            (n.0, subst (λ (j : ℕ). get_elem? (set s.views id w) j ≡ some n.0) (sym (put_else r.holder r.drawn id r.served (λ e. omega arith))) n.1, n.2)

  -- a seat with no ticket looks, and sees the history so far
  pub looks_free : (n id : ℕ) (me : Sat) → me.0.stage ≡ Free → Allows Rule n id me 1 (λ x. x) (λ x m. TellsLook stands who_of me x m)
  looks_free n id me free s r wide at _ =
      let v : View N = me.0 in let w : View N = sees v Free r.log (v.looks + 1) in let w' : View N = record v { seen = r.log; looks = v.looks + 1 } in
      let same : w' ≡ w = ap (λ (st : Stage). sees v st r.log (v.looks + 1)) free in
      let seen = r.history.each_seen id v at in
      let rule = subst (λ (u : View N). Rule (stepped s 1 (get_or s.words 1 0) id me.1 u keeps)) same (quiet s r 1 id me.1 v r.log (v.looks + 1) v.miss at (prefix_self r.log) seen (r.misses id v at) (same_word1 s r)) in
      let here : get_elem? (set s.views id w) id ≡ some w = now_here s.views id id v w at refl in (
        w,
        keeps,
        tt,
        rule,
        subst (λ (st : Stage). TellsLookAt stands who_of st me (get_or s.words 1 0) (w, me.1)) (sym free) (
          r.log,
          refl,
          seen,
          r.history.long ∙ sym (word1 s r),
          (let b = r.budget in let h = r.tickets.behind in let x = word1 s r in omega arith),
          r.history.stood,
          knows_of who_of callers r.log (set s.views id w) (counted_same who_of callers r.log s.views r.calls.entries id v Free v.left r.log (v.looks + 1) v.miss at (λ _. live_free v.stage free) seen) id w here tt (prefix_self r.log),
        ),
      )

  -- the machine was at home, and one seat gets the turn
  turn_taken : (s : St) (r : Rule s) (m : M) → r.place ≡ home m → (i id : ℕ) (w : View N) → ((t : ℕ) → w.stage ≡ Turn t → (t ≡ r.served) × (id ≡ i) × (w.seen ≡ r.log)) → OneSeatHasTheTurn {M = M} r.served i out r.log (set s.views id w)
  turn_taken s r m e i id w mine = each_set (λ j u. (t : ℕ) → u.stage ≡ Turn t → (t ≡ r.served) × (j ≡ i) × Unit {0} × (u.seen ≡ r.log)) s.views id w (λ t st. let k = mine t st in (k.0, k.1, tt, k.2))
      (λ j u _ q t st. absurd (subst IsOut e (r.turn j u q t st).2))

  -- what the seat gets where its ticket is served
  turn_at : (id t : ℕ) (me : Sat) (s : St) (r : Rule s) → get_elem? s.views id ≡ some me.0 → me.0.stage ≡ Drawn t → t ≡ r.served → (p : Where M) → r.place ≡ p
      → (w : View N) × (a : Act (Option M)) × Valid s.homes me.1 a × Rule (stepped s 1 (get_or s.words 1 0) id me.1 w a) × GetsTurn stands who_of t me (w, carried_after me.1 a)
  turn_at id t me s r at st is out e =
      let k = machine_at s r out e in
      let here : r.holder r.served ≡ id = holds_served s r id t me.0 at (subst (HasTicket t) (sym st) refl) is in
      let same : k.0.stage ≡ me.0.stage = ap (λ (y : View N). y.stage) (one_member s.views id (r.holder r.served) me.0 k.0 at k.1 here) in
      absurd (cc (same, k.2, st))
  turn_at id t me s r at st is (home m) e =
      let v : View N = me.0 in let w : View N = sees v (Turn t) r.log (v.looks + 1) in
      let k : stands m r.log = machine_at s r (home m) e in
      let here : r.holder r.served ≡ id = holds_served s r id t v at (subst (HasTicket t) (sym st) refl) is in
      let seen = r.history.each_seen id v at in
      let homes : s.homes ≡ some (Some m) ∷ [] = slot_at s r (home m) e in (
        w,
        takes 0 (Some m),
        ap (λ hs. get_elem? hs 0) homes,
        record {
          drawn = r.drawn;
          served = r.served;
          log = r.log;
          holder = r.holder;
          place = out;
          words_are = same_word1 s r ∙ r.words_are;
          slot_is = ap (λ hs. set hs 0 none) homes;
          budget = (let c = lefts_set s.views id v w at in let b = r.budget in omega arith);
          tickets = tickets_set r.drawn r.served r.holder s.views r.tickets id v w at (λ i h. subst (HasTicket i) (sym st) h) (λ i h. subst (HasTicket i) st h);
          turn = turn_taken s r m e (r.holder r.served) id w (λ i q. let same : t ≡ i = cc q in (sym same ∙ is, sym here, refl));
          history = record {
            long = r.history.long;
            each_seen = each_set (λ j u. IsPrefix u.seen r.log) s.views id w (prefix_self r.log) (λ j u _ e. r.history.each_seen j u e);
            each_kept = each_set (λ j u. KeptBegins u) s.views id w (λ l h. prefix_trans l v.seen r.log (r.history.each_kept id v at l h) seen) (λ j u _ e. r.history.each_kept j u e);
            machine = (w, now_here s.views id (r.holder r.served) v w at here, ap Turn is);
            stood = r.history.stood;
          };
          calls = record {
            entries = counted_same who_of callers r.log s.views r.calls.entries id v (Turn t) v.left r.log (v.looks + 1) v.miss at (λ _. subst IsLive (sym st) tt) seen;
            bounds = bounded_set s.views r.calls.bounds id w (r.calls.bounds.each_small id v at) (r.calls.bounds.each_few id v at) (let z = r.calls.bounds.each_left id v at in let y : out_of v.stage ≡ 1 = ap out_of st in omega arith);
          };
          misses = misses_set r.drawn s.views r.misses id w (r.misses id v at);
        },
        (r.log, m, refl, seen, r.history.long ∙ sym is, k),
      )

  -- a seat with a ticket looks
  pub looks_drawn : (n id t : ℕ) (me : Sat) → me.0.stage ≡ Drawn t → Allows Rule n id me 1 (λ x. x) (λ x m. TellsLook stands who_of me x m)
  looks_drawn n id t me st s r wide at _ =
      let x : ℕ = get_or s.words 1 0 in let xs : x ≡ r.served = word1 s r in let v : View N = me.0 in
      dite (ℕ_discrete x t)
      (λ hit. let g = turn_at id t me s r at st (sym hit ∙ xs) r.place refl in
      (g.0, g.1, g.2, g.3, subst (λ (y : Stage). TellsLookAt stands who_of y me x (g.0, carried_after me.1 g.1)) (sym st) ((λ _. g.4), (λ miss. absurd (miss hit)))))
      (λ miss. let w : View N = sees v v.stage v.seen (v.looks + 1) in (
        w,
        keeps,
        tt,
        quiet s r 1 id me.1 v v.seen (v.looks + 1) v.miss at (r.history.each_seen id v at) (prefix_self v.seen) (r.misses id v at) (same_word1 s r),
        subst (λ (y : Stage). TellsLookAt stands who_of y me x (w, me.1)) (sym st) ((λ hit. absurd (miss hit)), (λ _. refl)),
      ))

  -- what a seat knows is told
  pub recalls : (n id : ℕ) (me : Sat) → me.0.stage ≡ Free → Allows Rule n id me 0 (λ x. x) (λ x m. TellsCalls who_of me m)
  recalls n id me free s r wide at _ = let v : View N = me.0 in (
    v,
    keeps,
    tt,
    quiet s r 0 id me.1 v v.seen v.looks v.miss at (r.history.each_seen id v at) (prefix_self v.seen) (r.misses id v at) (same_word0 s r),
    (refl, tells s r id v at (live_free v.stage free), r.history.each_kept id v at),
  )

  -- a call is done, and the machine goes home
  pub ends : (n id t : ℕ) (me : Sat) (m : M) (more : List (ℕ × Option M)) (e : N) → me.0.stage ≡ Turn t → me.0.spare ≡ 0 → me.1 ≡ (0, Some m) ∷ more → stands m (me.0.seen ++ e ∷ []) → who_of e ≡ me.0.number
      → Allows Rule n id me 1 (λ x. (x + 1) % 2 ^ 64) (λ x k. TellsDone who_of (e ∷ []) me k)
  ends n id t me m more e st spare has up who s r wide at _ =
      let v : View N = me.0 in let w : View N = made v (e ∷ []) in let x : ℕ = get_or s.words 1 0 in let xs : x ≡ r.served = word1 s r in
      let c = r.turn id v at t st in let now : t ≡ r.served = c.0 in let gone : r.place ≡ out = is_out r.place c.2 in let all : v.seen ≡ r.log = c.3 in
      let b = r.budget in let h = r.tickets.behind in let below : t < r.drawn = turn_below s r id t v at st in
      let homes : s.homes ≡ none ∷ [] = slot_at s r out gone in
      let next : (x + 1) % 2 ^ 64 ≡ r.served + 1 = ap (λ (z : ℕ). (z + 1) % 2 ^ 64) xs ∙ mod-eq_of_lt (omega arith) in
      let log' : List N = r.log ++ e ∷ [] in
      let whole : w.seen ≡ log' = ap (λ (l : List N). l ++ e ∷ []) all in
      let seen : IsPrefix w.seen log' = subst (λ (l : List N). IsPrefix l log') (sym whole) (prefix_self log') in
      let kept : KeptBegins w = λ l g. prefix_more l v.seen (e ∷ []) (r.history.each_kept id v at l g) in
      let live : IsLive v.stage = subst IsLive (sym st) tt in
      let entries = counted_end who_of callers r.log s.views r.calls.entries id v e at live spare all who in
      let stood : stands m log' = subst (λ (l : List N). stands m (l ++ e ∷ [])) all up in
      let here : get_elem? (set s.views id w) id ≡ some w = now_here s.views id id v w at refl in
      let mine : (i : ℕ) → HasTicket i v.stage → t ≡ i = λ i g. subst (HasTicket i) st g in (
        w,
        gives,
        tt,
        record {
          drawn = r.drawn;
          served = r.served + 1;
          log = log';
          holder = r.holder;
          place = home m;
          words_are = ap₂ (λ (ws : List ℕ) (y : ℕ). set ws 1 y) r.words_are next;
          slot_is = ap₂ put_back homes has;
          budget = (let d = lefts_set s.views id v w at in omega arith);
          tickets = record {
            behind = (omega arith);
            each_seat = each_set (λ j u. (i : ℕ) → HasTicket i u.stage → (r.served + 1 ≤ i) × (i < r.drawn) × (r.holder i ≡ j)) s.views id w (λ i g. absurd g)
                (λ j u other q i g. let k = r.tickets.each_seat j u q i g in let le : r.served ≤ i = k.0 in let ne : i ≢ r.served = λ same. other (sym k.2 ∙ ap r.holder same ∙ sym c.1) in ((omega arith), k.1, k.2));
            each_ticket = λ i a d. some_set (λ u. HasTicket i u.stage) s.views id (r.holder i) v w at (r.tickets.each_ticket i (omega arith) d)
                (λ _ g. let same : t ≡ i = mine i g in let apart : ⊥ = omega arith in absurd apart);
          };
          turn = each_set (λ j u. (i : ℕ) → u.stage ≡ Turn i → (i ≡ r.served + 1) × (j ≡ r.holder (r.served + 1)) × IsOut (home m) × (u.seen ≡ log')) s.views id w (λ i q. absurd (cc q))
              (λ j u other q i g. absurd (other ((r.turn j u q i g).1 ∙ sym c.1)));
          history = record {
            long = length-append r.log (e ∷ []) ∙ (let long = r.history.long in omega arith);
            each_seen = each_set (λ j u. IsPrefix u.seen log') s.views id w seen (λ j u _ q. prefix_more u.seen r.log (e ∷ []) (r.history.each_seen j u q));
            each_kept = each_set (λ j u. KeptBegins u) s.views id w kept (λ j u _ q. r.history.each_kept j u q);
            machine = stood;
            stood = (m, stood);
          };
          calls = record { entries = entries; bounds = bounded_made s.views r.calls.bounds id t v (e ∷ []) at st };
          misses = misses_set r.drawn s.views r.misses id w (r.misses id v at);
        },
        (refl, knows_of who_of callers log' (set s.views id w) entries id w here tt seen),
      )

  only_first : (P : ℕ → View N → Type 0) (v : View N) → P 0 v → (j : ℕ) (u : View N) → get_elem? (v ∷ []) j ≡ some u → P j u
  only_first P v p zero u e = subst (P 0) (some-injective v u e) p
  only_first P v p (suc j) u e = absurd (some-ne-none u (sym e))

  -- the table is made
  pub starts : (m : M) → stands m [] → 1 ≤ callers → callers ≤ 64 → Rule (opening (0 ∷ 0 ∷ []) (Some m ∷ []) (starting callers))
  starts m up some_callers few = let v : View N = starting callers in let low : (w : ℕ) → Has v.numbers w → w < callers = λ w h. let b = up_from_below 0 callers w h in omega arith in record {
    drawn = 0;
    served = 0;
    log = [];
    holder = λ _. 0;
    place = home m;
    words_are = refl;
    slot_is = refl;
    budget = (omega arith);
    tickets = record {
      behind = (omega arith);
      each_seat = only_first (λ j u. (t : ℕ) → HasTicket t u.stage → (0 ≤ t) × (t < 0) × (0 ≡ j)) v (λ t h. absurd h);
      each_ticket = λ t a b. absurd (omega arith);
    };
    turn = only_first (λ j u. (t : ℕ) → u.stage ≡ Turn t → (t ≡ 0) × (j ≡ 0) × IsOut (home m) × (u.seen ≡ [])) v (λ t e. absurd (cc e));
    history = record {
      long = refl;
      each_seen = only_first (λ j u. IsPrefix u.seen []) v ([], refl);
      each_kept = only_first (λ j u. KeptBegins u) v (λ l h. absurd h);
      machine = up;
      stood = (m, up);
    };
    calls = record {
      entries = record {
        owner = λ _. 0;
        each_number = only_first (λ j u. (w : ℕ) → Has u.numbers w → (w < callers) × (0 ≡ j)) v (λ w h. (low w h, refl));
        each_live = only_first (λ j u. IsLive u.stage → (u.callers ≡ callers) × Has u.numbers u.number) v (λ _. (refl, first_of_all callers some_callers));
        each_dealer = only_first (λ j u. 0 < u.spare → u.own ≡ []) v (λ _. refl);
        each_own = only_first (λ j u. (w p : ℕ) → Has u.own (w, p) → Has u.numbers w × Stands who_of u.seen w p) v (λ w p h. absurd h);
        each_once = only_first (λ j u. Once u.own) v tt;
        each_place = λ p e q. absurd (some-ne-none e (sym q));
      };
      bounds = record {
        each_small = only_first (λ j u. (w : ℕ) → Has u.numbers w → w < 64) v (λ w h. let b = low w h in omega arith);
        each_few = only_first (λ j u. (w : ℕ) → calls_of w u.own ≤ 2 ^ 44) v (λ w. omega arith);
        each_left = only_first (λ j u. calls_of u.number u.own + out_of u.stage + u.left ≤ 2 ^ 44) v (omega arith);
      };
    };
    misses = only_first (λ j u. IsTrueMiss 0 u.miss) v tt;
  } where
    first_of_all : (n : ℕ) → 1 ≤ n → Has (up_from 0 n) 0
    first_of_all zero h = absurd (omega arith)
    first_of_all (suc n) h = inl refl

  -- a new seat
  tickets_end : (d s : ℕ) (f : ℕ → ℕ) (views : List (View N)) → EachTicketHasASeat d s f views → (n : ℕ) (w : View N) → length views ≡ n → w.stage ≡ Free → EachTicketHasASeat d s f (views ++ w ∷ [])
  tickets_end d s f views q n w long free = record {
    behind = q.behind;
    each_seat = each_end (λ j u. (t : ℕ) → HasTicket t u.stage → (s ≤ t) × (t < d) × (f t ≡ j)) views n w long (λ t h. absurd (subst (HasTicket t) free h)) q.each_seat;
    each_ticket = λ t a b. let z = q.each_ticket t a b in (z.0, at_longer views (w ∷ []) (f t) z.0 z.1, z.2);
  }

  history_end : (s i : ℕ) (p : Where M) (log : List N) (views : List (View N)) → ThereIsOneHistory stands s i p log views → (n : ℕ) (w : View N) → length views ≡ n → IsPrefix w.seen log → KeptBegins w
      → ThereIsOneHistory stands s i p log (views ++ w ∷ [])
  history_end s i p log views h n w long seen kept = record {
    long = h.long;
    each_seen = each_end (λ j u. IsPrefix u.seen log) views n w long seen h.each_seen;
    each_kept = each_end (λ j u. KeptBegins u) views n w long kept h.each_kept;
    machine = longer_machine p h.machine;
    stood = h.stood;
  } where
    longer_machine : (p : Where M) → MachineStands stands s i log views p → MachineStands stands s i log (views ++ w ∷ []) p
    longer_machine (home m) k = k
    longer_machine out k = (k.0, at_longer views (w ∷ []) i k.0 k.1, k.2)

  -- a seat that is free never has the turn
  free_turn : (v : View N) → v.stage ≡ Free → (t : ℕ) → v.stage ≡ Turn t → ⊥
  free_turn v free t st = absurd (cc (st, free))

  -- a seat is split in two
  pub splits : (id k : ℕ) (v : View N) → v.stage ≡ Free → v.numbers ≡ up_from v.number (suc (suc k)) → v.own ≡ [] → 1 ≤ v.spare → Splits Rule id v (split_left v) (split_right v)
  splits id k v free numbers own much s r at =
      let w : View N = split_left v in let n : ℕ = length s.views in let long : length (set s.views id w) ≡ n = length-set s.views id w in let b : View N = split_right v in
      let vs : List (View N) = set s.views id w in
      let none : (x : ℕ) → (let o : ℕ = calls_of x v.own in let z : ℕ = 0 in o ≡ z) = λ x. ap (calls_of x) own in let idle : out_of v.stage ≡ 0 = ap out_of free in
      let small : (x : ℕ) → Has v.numbers x → x < 64 = r.calls.bounds.each_small id v at in
      let first : Has v.numbers v.number = (r.calls.entries.each_live id v at (live_free v.stage free)).1 in
      let bounds = bounded_set s.views r.calls.bounds id w (λ x h. small x (in_tail v.numbers x h)) (r.calls.bounds.each_few id v at) (let z = r.calls.bounds.each_left id v at in let o = none (v.number + 1) in let o' = none v.number in omega arith) in record {
        drawn = r.drawn;
        served = r.served;
        log = r.log;
        holder = r.holder;
        place = r.place;
        words_are = r.words_are;
        slot_is = r.slot_is;
        budget = (let c = lefts_set s.views id v w at in let d = lefts_end vs b in let e = r.budget in omega arith);
        tickets = tickets_end r.drawn r.served r.holder vs (tickets_set r.drawn r.served r.holder s.views r.tickets id v w at (λ _ h. h) (λ _ h. h)) n b long free;
        turn = each_end (λ j u. (t : ℕ) → u.stage ≡ Turn t → (t ≡ r.served) × (j ≡ r.holder r.served) × IsOut r.place × (u.seen ≡ r.log)) vs n b long (λ t st. absurd (free_turn v free t st))
            (turn_set r.served (r.holder r.served) r.place r.log s.views r.turn id w (λ t st. absurd (free_turn v free t st)));
        history = history_end r.served (r.holder r.served) r.place r.log vs (history_set r.served (r.holder r.served) r.place r.log s.views r.history id v w at (r.history.each_seen id v at) (r.history.each_kept id v at) (λ st. st)) n b long
            (r.history.each_seen id v at) (λ l h. absurd h);
        calls = record {
          entries = counted_cut who_of callers r.log s.views r.calls.entries id k v at (live_free v.stage free) numbers own;
          bounds = bounded_end vs bounds b (λ x h. ⊎_elim (λ (e : v.number ≡ x). subst (λ (y : ℕ). y < 64) e (small v.number first)) (λ h. absurd h) h) (λ x. omega arith) (omega arith);
        };
        misses = each_end (λ j u. IsTrueMiss r.drawn u.miss) vs n b long tt (misses_set r.drawn s.views r.misses id w (r.misses id v at));
      } where
        in_tail : (ns : List ℕ) (x : ℕ) → Has (tail ns) x → Has ns x
        in_tail [] x h = absurd h
        in_tail (y ∷ ns) x h = inr h

  -- a seat takes in another
  pub joins : (id other : ℕ) (v w : View N) → v.stage ≡ Free → v.spare ≡ 0 → w.stage ≡ Free → Joins Rule id v other w (joined v w) spent
  joins id other v w free spare free' s r at two at'' =
      let b : View N = joined v w in let vs : List (View N) = set s.views id b in
      let at' : get_elem? s.views other ≡ some w = sym (set_else s.views id other b two) ∙ at'' in
      let seen = longer_is v.seen w.seen r.log (r.history.each_seen id v at) (r.history.each_seen other w at') in
      let kept : KeptBegins b = λ l h. ⊎_elim (λ old. ⊎_elim (λ a. prefix_trans l v.seen b.seen (r.history.each_kept id v at l a) seen.0) (λ a. prefix_trans l w.seen b.seen (r.history.each_kept other w at' l a) seen.1) (has_either v.kept w.kept l old))
      (λ new. ⊎_elim (λ (e : v.seen ≡ l). subst (λ (x : List N). IsPrefix x b.seen) e seen.0) (λ more. ⊎_elim (λ (e : w.seen ≡ l). subst (λ (x : List N). IsPrefix x b.seen) e seen.1) (λ x. absurd x) more) new) (has_either (v.kept ++ w.kept) (v.seen ∷ w.seen ∷ []) l h) in record {
        drawn = r.drawn;
        served = r.served;
        log = r.log;
        holder = r.holder;
        place = r.place;
        words_are = r.words_are;
        slot_is = r.slot_is;
        budget = (let c = lefts_set s.views id v b at in let d = lefts_set vs other w spent at'' in let e = r.budget in omega arith);
        tickets = tickets_set r.drawn r.served r.holder vs (tickets_set r.drawn r.served r.holder s.views r.tickets id v b at (λ _ h. h) (λ _ h. h)) other w spent at'' (λ t h. absurd h) (λ t h. absurd (subst (HasTicket t) free' h));
        turn = turn_set r.served (r.holder r.served) r.place r.log vs (turn_set r.served (r.holder r.served) r.place r.log s.views r.turn id b (λ t st. absurd (free_turn v free t st))) other spent (λ t st. absurd (cc st));
        history = history_set r.served (r.holder r.served) r.place r.log vs (history_set r.served (r.holder r.served) r.place r.log s.views r.history id v b at seen.2 kept (λ st. st)) other w spent at'' (r.log, refl) (λ l h. absurd h)
            (λ st. absurd (free_turn w free' r.served st));
        calls = record {
          entries = counted_join who_of callers r.log s.views r.calls.entries id other v w at two at' (live_free v.stage free) spare seen.0 seen.1;
          bounds = bounded_join who_of callers r.log s.views r.calls.entries r.calls.bounds id other v w at two at' (live_free v.stage free);
        };
        misses = misses_set r.drawn vs (misses_set r.drawn s.views r.misses id b (r.misses id v at)) other spent tt;
      }

  -- a ticket is drawn where none is out, and the turn comes with it; else the miss is kept
  pub tries : (n id old : ℕ) (me : Sat) → me.0.stage ≡ Free → 0 < me.0.left → length me.0.seen ≡ old → Allows Rule n id me 0 (λ x. either (eqb x old) (old + 1) x) (λ x m. TellsTry stands who_of (step n 0 old (old + 1) none) me x m)
  tries n id old me free some_left len s r wide at _ =
      let v : View N = me.0 in let x : ℕ = get_or s.words 0 0 in let xd : x ≡ r.drawn = word0 s r in let h = r.tickets.behind in let long = r.history.long in
      let seen = r.history.each_seen id v at in let saw : length v.seen ≤ length r.log = (let a = length-append v.seen seen.0 in let b = ap length seen.1 in omega arith) in
      let Goal : ℕ → Type 0 = λ y. (w : View N) × (a : Act (Option M)) × Valid s.homes me.1 a × Rule (stepped s 0 y id me.1 w a) × TellsTry stands who_of (step n 0 old (old + 1) none) me x (w, carried_after me.1 a) in
      exchanged x old (old + 1) Goal
      (λ hit. try_at n id old me s r at free some_left len (sym xd ∙ hit) hit r.place refl)
      (λ miss. let w : View N = missed v old x in let more : old < x = omega arith in let b = r.budget in let few : x ≤ 2 ^ 50 = omega arith in
      (w, keeps, tt, quiet s r 0 id me.1 v v.seen v.looks w.miss at seen (prefix_self v.seen) (more, (omega arith)) (same_word0 s r), ((λ hit. absurd (miss hit)), (λ _. (refl, more, few)))))
    where
      try_at : (n id old : ℕ) (me : Sat) (s : St) (r : Rule s) → get_elem? s.views id ≡ some me.0 → me.0.stage ≡ Free → 0 < me.0.left → length me.0.seen ≡ old → r.drawn ≡ old → get_or s.words 0 0 ≡ old → (p : Where M) → r.place ≡ p
          → (w : View N) × (a : Act (Option M)) × Valid s.homes me.1 a × Rule (stepped s 0 (old + 1) id me.1 w a) × TellsTry stands who_of (step n 0 old (old + 1) none) me (get_or s.words 0 0) (w, carried_after me.1 a)
      try_at n id old me s r at free some_left len is hit out e =
          let k = machine_at s r out e in let lt = turn_below s r (r.holder r.served) r.served k.0 k.1 k.2 in let long = r.history.long in
          let seen = r.history.each_seen id me.0 at in let saw : length me.0.seen ≤ length r.log = (let a = length-append me.0.seen seen.0 in let b = ap length seen.1 in omega arith) in
          absurd (omega arith)
      try_at n id old me s r at free some_left len is hit (home m) e =
          let v : View N = me.0 in let w : View N = took_turn v old in let f : ℕ → ℕ = put r.holder r.drawn id in
          let long = r.history.long in let h = r.tickets.behind in let seen = r.history.each_seen id v at in
          let saw : length v.seen ≤ length r.log = (let a = length-append v.seen seen.0 in let b = ap length seen.1 in omega arith) in
          let now : old ≡ r.served = omega arith in let none_out : r.served ≡ r.drawn = omega arith in
          let all : v.seen ≡ r.log = prefix_whole v.seen r.log seen (omega arith) in
          let k : stands m r.log = machine_at s r (home m) e in
          let homes : s.homes ≡ some (Some m) ∷ [] = slot_at s r (home m) e in
          let mine = lefts_at s.views id v at in let c = lefts_set s.views id v w at in let b = r.budget in
          let small : old < 2 ^ 50 = omega arith in
          let here : f r.served ≡ id = put_here r.holder r.drawn id r.served none_out in (
            w,
            takes 0 (Some m),
            ap (λ hs. get_elem? hs 0) homes,
            record {
              drawn = r.drawn + 1;
              served = r.served;
              log = r.log;
              holder = f;
              place = out;
              words_are = ap₂ (λ (ws : List ℕ) (y : ℕ). set ws 0 y) r.words_are (let y : old + 1 ≡ r.drawn + 1 = omega arith in y);
              slot_is = ap (λ hs. set hs 0 none) homes;
              budget = (omega arith);
              tickets = tickets_drawn s r id v w at free (λ t g. is ∙ g) (sym is);
              turn = turn_taken s r m e (f r.served) id w (λ t st. let same : old ≡ t = cc st in (sym same ∙ now, sym here, all));
              history = record {
                long = r.history.long;
                each_seen = each_set (λ j u. IsPrefix u.seen r.log) s.views id w seen (λ j u _ e. r.history.each_seen j u e);
                each_kept = each_set (λ j u. KeptBegins u) s.views id w (r.history.each_kept id v at) (λ j u _ e. r.history.each_kept j u e);
                machine = (w, now_here s.views id (f r.served) v w at here, ap Turn now);
                stood = r.history.stood;
              };
              calls = record {
                entries = counted_same who_of callers r.log s.views r.calls.entries id v (Turn old) (v.left - 1) v.seen v.looks v.miss at (λ _. live_free v.stage free) (prefix_self v.seen);
                bounds = bounded_set s.views r.calls.bounds id w (r.calls.bounds.each_small id v at) (r.calls.bounds.each_few id v at) (let z = r.calls.bounds.each_left id v at in let y : out_of v.stage ≡ 0 = ap out_of free in omega arith);
              };
              misses = misses_set (r.drawn + 1) s.views (misses_more r.drawn s.views r.misses) id w (miss_more r.drawn v.miss (r.misses id v at));
            },
            ((λ _. (m, refl, subst (stands m) (sym all) k, small)), (λ miss. absurd (miss hit))),
          )

  -- where a free seat has every number, the machine is at home and stands for what the seat has seen
  whole_is_home : (s : St) (r : Rule s) (id : ℕ) (v : View N) → get_elem? s.views id ≡ some v → v.stage ≡ Free → IsWhole v
      → (m : M) × (s.homes ≡ some (Some m) ∷ []) × stands m v.seen
  whole_is_home s r id v at free whole = at_home r.place refl where
    lives : (v.callers ≡ callers) × Has v.numbers v.number
    lives = r.calls.entries.each_live id v at (live_free v.stage free)

    -- a number that is someone's is this seat's
    mine : (w : ℕ) → w < callers → r.calls.entries.owner w ≡ id
    mine w below = (r.calls.entries.each_number id v at w (whole w (let e = lives.0 in omega arith))).1

    seen_all : Dec (length r.log ≤ length v.seen) → v.seen ≡ r.log
    seen_all (yes le) = prefix_whole v.seen r.log (r.history.each_seen id v at) le
    seen_all (no n) =
        let p : ℕ = length v.seen in let lt : p < length r.log = lt_of_not-le n in
        let e = at_there r.log p lt in let w : ℕ = who_of e.0 in
        let old = r.calls.entries.each_place p e.0 e.1 in
        let theirs = r.calls.entries.each_own (r.calls.entries.owner w) old.0 old.1 w p old.2 in
        let below = (r.calls.entries.each_number (r.calls.entries.owner w) old.0 old.1 w theirs.0).0 in
        let same : old.0 ≡ v = one_member s.views id (r.calls.entries.owner w) v old.0 at old.1 (mine w below) in
        let own : Has v.own (w, p) = subst (λ (u : View N). Has u.own (w, p)) same old.2 in
        let there = (r.calls.entries.each_own id v at w p own).1 in
        let inside = at_below v.seen p there.0 there.1 in absurd (omega arith)

    at_home : (p : Where M) → r.place ≡ p → (m : M) × (s.homes ≡ some (Some m) ∷ []) × stands m v.seen
    at_home (home m) e = (m, slot_at s r (home m) e, subst (stands m) (sym (seen_all (dec_le (length r.log) (length v.seen)))) (machine_at s r (home m) e))
    at_home out e =
        let k = machine_at s r out e in
        let i : ℕ = r.holder r.served in
        let their = r.calls.entries.each_live i k.0 k.1 (subst IsLive (sym k.2) tt) in
        let o = r.calls.entries.each_number i k.0 k.1 k.0.number their.1 in
        let here : i ≡ id = sym o.1 ∙ mine k.0.number o.0 in
        let same : k.0.stage ≡ v.stage = ap (λ (y : View N). y.stage) (one_member s.views id i v k.0 at k.1 here) in
        absurd (cc (same, k.2, free))

  -- what the last pass finds
  final_home : (ws : List ℕ) (xs : List (Option M)) (id : ℕ) (v : View N) → v.stage ≡ Free → IsWhole v → Final (Seen Rule id v) ws xs → (m : M) × (get_elem? xs 0 ≡ some (Some m)) × stands m v.seen
  final_home ws xs id v free whole f = let h = whole_is_home f.0 f.1.0 id v f.1.1 free whole in (h.0, f.4 0 (Some h.0) (ap (λ hs. get_elem? hs 0) h.1), h.2)

  -- the value that is taken out in the end
  pub taken_home : (ws : List ℕ) (xs : List (Option M)) (id : ℕ) (v : View N) (x : Option M) → v.stage ≡ Free → IsWhole v → Final (Seen Rule id v) ws xs → get_elem? xs 0 ≡ some x → (m : M) × (x ≡ Some m) × stands m v.seen
  taken_home ws xs id v x free whole f e = let h = final_home ws xs id v free whole f in (h.0, some-injective x (Some h.0) (sym e ∙ h.1), h.2)

  -- what the last pass knows of its calls
  pub final_knows : (ws : List ℕ) (xs : List (Option M)) (id : ℕ) (v : View N) → v.stage ≡ Free → Final (Seen Rule id v) ws xs → KnowsItsCalls who_of v
  final_knows ws xs id v free f = tells f.0 f.1.0 id v f.1.1 (live_free v.stage free)

  -- the seat that has the numbers from i on gives the first away
  pub splits_dealt : (id i n : ℕ) (v : View N) → v ≡ dealt n i → i + 1 < n → Splits Rule id v (split_left v) (split_right v)
  splits_dealt id i n v e lt =
      let k : ℕ = n - i - 2 in
      let numbers : up_from i (n - i) ≡ up_from i (suc (suc k)) = ap (up_from i) (let q : n - i ≡ suc (suc k) = omega arith in q) in
      subst (λ (u : View N). Splits Rule id u (split_left u) (split_right u)) (sym e) (splits id k (dealt n i) refl numbers refl (omega arith))

-- what is left after a number is given away
pub next_dealt : {N : Type 0} (n i : ℕ) → i + 1 < n → split_left {N = N} (dealt n i) ≡ dealt n (i + 1)
next_dealt {N = N} n i lt =
    let k : ℕ = n - i - 1 in
    let numbers : tail (up_from i (n - i)) ≡ up_from (i + 1) (n - (i + 1)) =
    ap (λ (z : ℕ). tail (up_from i z)) (let q : n - i ≡ suc k = omega arith in q) ∙ ap₂ up_from (let a : suc i ≡ i + 1 = omega arith in a) (let b : k ≡ n - (i + 1) = omega arith in b) in
    let left : n - i - 1 - 1 ≡ n - (i + 1) - 1 = omega arith in
    ap₂ (λ (ns : List ℕ) (l : ℕ). let v : View N = record { stage = Free; number = i + 1; numbers = ns; callers = n; left = 2 ^ 44; spare = l; seen = []; kept = []; own = []; looks = 0; miss = None } in v) numbers left

-- the last number is all that the first seat has left
pub last_dealt : {N : Type 0} (n i : ℕ) → i + 1 ≡ n → dealt {N = N} n i ≡ fresh n i
last_dealt {N = N} n i e =
    let one : n - i ≡ 1 = omega arith in
    ap₂ (λ (ns : List ℕ) (l : ℕ). let v : View N = record { stage = Free; number = i; numbers = ns; callers = n; left = 2 ^ 44; spare = l; seen = []; kept = []; own = []; looks = 0; miss = None } in v) (ap (up_from i) one) (let q : n - i - 1 ≡ 0 = omega arith in q)
