-- One call more in a client's log, and one look more.
use Rattle.workers.proofs.Imports.{append_assoc, ◌≡◌, ◌≢◌, ⊎_elim, ℕ, nat_eq, Bool, eq-eqb, ne_eqb, suc, ◌+◌, ◌<◌, ◌≤◌, true, false, List, [], ◌∷◌, ◌++◌, length, take, slice_get, set, Some, refl, ap, sym, ◌∙◌, subst, arith, length-append, if◌then◌else◌, IsSome, take-append_seam, All-push, slice_get_within, dite, some, IsPrefix, ℕ_discrete, get_elem?, TableId, View, at_below, prefix_at, Input, Entry, IsFrom, LogEntry, caller_of, Scripted, next_event, waits_on, plays_of, InTurn, IsEvent, replies, before, turn_more, asked_more, order_more, sources, IsGiven, Caller, OneCalls, OneLooks, set_there, set_elsewhere, one_value, at_end, BringFrom, BringsIn, HasCalled, IsLogged, Tells, TellsIn, calls_on}
use Rattle.atomic_table.proofs.Lists.{at_last}
use Rattle.dmx_calls.specs.Response.{NoMemory}

pub prefix_long : {A : Type 0} (xs ys : List A) → IsPrefix xs ys → length xs ≤ length ys
prefix_long xs ys p = let e : length xs + length p.0 ≡ length ys = sym (length-append xs p.0) ∙ ap length p.1 in omega arith

-- ------ the entries of one node

-- where the lists behind the first entry agree
on_first : (b : Bool) (w : ℕ × ℕ) (ls ms ns : List (ℕ × ℕ)) → ls ≡ ms ++ ns → (if b then w ∷ ls else ls) ≡ (if b then w ∷ ms else ms) ++ ns
on_first true w ls ms ns e = ap (λ l. w ∷ l) e
on_first false w ls ms ns e = e

pub on_here : (node : ℕ) (log : List LogEntry) (e : LogEntry) → e.node ≡ node → calls_on node (log ++ e ∷ []) ≡ calls_on node log ++ (e.who, e.place) ∷ []
on_here node [] e is = ap (λ b. if b then (e.who, e.place) ∷ [] else []) (eq-eqb e.node node is)
on_here node (x ∷ log) e is = on_first (nat_eq x.node node) (x.who, x.place) (calls_on node (log ++ e ∷ [])) (calls_on node log) ((e.who, e.place) ∷ []) (on_here node log e is)

pub on_other : (node : ℕ) (log : List LogEntry) (e : LogEntry) → e.node ≢ node → calls_on node (log ++ e ∷ []) ≡ calls_on node log
on_other node [] e not = ap (λ b. if b then (e.who, e.place) ∷ [] else []) (ne_eqb e.node node not)
on_other node (x ∷ log) e not = ap (λ (l : List (ℕ × ℕ)). if nat_eq x.node node then (x.who, x.place) ∷ l else l) (on_other node log e not)

-- ------ one pass is changed, and has seen more

module _ (ps qs : List (TableId × View Entry)) (node : ℕ) (first now : TableId × View Entry) (was : slice_get ps node ≡ Some first) (is : qs ≡ set ps node now) (seen : IsPrefix first.1.seen now.1.seen) where
  pub now_there : slice_get qs node ≡ Some now
  now_there = ap (λ (l : List (TableId × View Entry)). slice_get l node) is ∙ set_there ps node now (slice_get_within ps node first was)

  pub else_there : (i : ℕ) → i ≢ node → slice_get qs i ≡ slice_get ps i
  else_there i n = ap (λ (l : List (TableId × View Entry)). slice_get l i) is ∙ set_elsewhere ps node i now n

  -- a fact of each pass, where it stays of the one that is changed
  pub still_each : (P : ℕ → TableId × View Entry → Type 0) → P node now → ((i : ℕ) (p : TableId × View Entry) → slice_get ps i ≡ Some p → P i p) → (i : ℕ) (q : TableId × View Entry) → slice_get qs i ≡ Some q → P i q
  still_each P one all i q at = dite (ℕ_discrete i node)
      (λ here. let same : now ≡ q = one_value qs node now q now_there (ap (slice_get qs) (sym here) ∙ at) in
      subst (λ (k : ℕ). P k q) (sym here) (subst (P node) same one))
      (λ away. all i q (sym (else_there i away) ∙ at))

  -- what was seen is still seen
  pub still : (P : Entry → Type 0) (f : LogEntry) (p : TableId × View Entry) → slice_get ps f.node ≡ Some p → (x : Entry) × (get_elem? p.1.seen f.place ≡ some x) × P x
      → (q : TableId × View Entry) × (slice_get qs f.node ≡ Some q) × ((x : Entry) × (get_elem? q.1.seen f.place ≡ some x) × P x)
  still P f p at t = dite (ℕ_discrete f.node node)
      (λ here. let same : first ≡ p = one_value ps node first p was (ap (slice_get ps) (sym here) ∙ at) in
      let old : get_elem? first.1.seen f.place ≡ some t.0 = ap (λ (z : TableId × View Entry). get_elem? z.1.seen f.place) same ∙ t.1 in
      (now, ap (slice_get qs) here ∙ now_there, (t.0, prefix_at first.1.seen now.1.seen f.place t.0 seen old, t.2)))
      (λ away. (p, else_there f.node away ∙ at, t))

-- ------ one call

module _ (c d : Caller) (S : List Entry → Type 0) (node place : ℕ) (x : Entry) (o : OneCalls caller_of S node (λ _. x) place c.passes d.passes) (who : d.who ≡ c.who) where
  longer : IsPrefix o.first.1.seen o.then.1.seen
  longer = let p = o.more.seen in let e : o.first.1.seen ++ (p.0 ++ x ∷ []) ≡ o.then.1.seen = sym (append_assoc o.first.1.seen p.0 (x ∷ [])) ∙ (ap (λ (l : List Entry). l ++ x ∷ []) p.1 ∙ sym o.more.now) in (p.0 ++ x ∷ [], e)

  -- an entry on the node has a place before this one
  before_this : (f : LogEntry) (p : TableId × View Entry) → slice_get c.passes f.node ≡ Some p → TellsIn p.1.seen f → f.node ≡ node → f.place < place
  before_this f p at t here =
      let same : o.first ≡ p = one_value c.passes node o.first p o.was (ap (slice_get c.passes) (sym here) ∙ at) in
      let seen : get_elem? o.first.1.seen f.place ≡ some t.0 = ap (λ (z : TableId × View Entry). get_elem? z.1.seen f.place) same ∙ t.1 in
      let low = at_below o.more.before f.place t.0 (prefix_at o.first.1.seen o.more.before f.place t.0 o.more.seen seen) in let at = o.more.at in omega arith

  -- what the pass had seen stands before this place
  pub past : (last : ℕ) → last < length o.first.1.seen → last < place
  past last low = let long = prefix_long o.first.1.seen o.more.before o.more.seen in let at = o.more.at in omega arith

  -- this entry is seen at its place
  now_seen : (at : ℕ) → at ≡ place → get_elem? o.then.1.seen at ≡ some x
  now_seen at is = ap (get_elem? o.then.1.seen) (is ∙ o.more.at) ∙ ap (λ (h : List Entry). get_elem? h (length o.more.before)) o.more.now ∙ at_last o.more.before x (length o.more.before) refl

  -- what the calls bring is still of these packets
  pub brings_more : (packets : Input → List (List ℕ)) (log : List LogEntry) (e : LogEntry) → BringFrom packets c log → e.node ≡ node → e.place ≡ place → IsFrom packets x.invocation → BringFrom packets d (log ++ e ∷ [])
  brings_more packets log e l node_is place_is from i f at = ⊎_elim
      (λ old. let t = l i f old in still c.passes d.passes node o.first o.then o.was o.is longer (λ (y : Entry). IsFrom packets y.invocation) f t.0 t.1 t.2)
      (λ last. subst (λ (z : LogEntry). (p : TableId × View Entry) × (slice_get d.passes z.node ≡ Some p) × BringsIn packets p.1.seen z) last.1
      (o.then, ap (slice_get d.passes) node_is ∙ now_there c.passes d.passes node o.first o.then o.was o.is longer, (x, now_seen e.place place_is, from)))
      (at_end log e f i at)

  pub logged_more : (log : List LogEntry) (e : LogEntry) → IsLogged c log → e.node ≡ node → e.place ≡ place → e.step ≡ length log → e.who ≡ c.who → Tells e x → IsLogged d (log ++ e ∷ [])
  logged_more log e l node_is place_is step_is who_is tells =
      let there = now_there c.passes d.passes node o.first o.then o.was o.is longer in
      let elsewhere = else_there c.passes d.passes node o.first o.then o.was o.is longer in record {
        mine = still_each c.passes d.passes node o.first o.then o.was o.is longer (λ i (p : TableId × View Entry). p.1.number ≡ d.who) (o.more.same.1 ∙ (l.mine node o.first o.was ∙ sym who)) (λ i p at. l.mine i p at ∙ sym who);
        steps = turn_more log e d.who (subst (λ who. InTurn who log) (sym who) l.steps) step_is (who_is ∙ sym who);
        tells = λ i f at. ⊎_elim (λ old. let t = l.tells i f old in still c.passes d.passes node o.first o.then o.was o.is longer (Tells f) f t.0 t.1 t.2)
            (λ last. subst (λ (z : LogEntry). (p : TableId × View Entry) × (slice_get d.passes z.node ≡ Some p) × TellsIn p.1.seen z) last.1
            (o.then, ap (slice_get d.passes) node_is ∙ there, (x, now_seen e.place place_is, tells)))
            (at_end log e f i at);
        in_order = order_more log e l.in_order (λ i f at same.
            let t = l.tells i f at in
            let under = before_this f t.0 t.1 t.2 (same ∙ node_is) in
            omega (arith, under, place_is));
        just = λ n q at. dite (ℕ_discrete n node)
            (λ here. let same : o.then ≡ q = one_value d.passes node o.then q there (ap (slice_get d.passes) (sym here) ∙ at) in
            let old = l.just node o.first o.was in
            ap (λ (z : TableId × View Entry). z.1.own) (sym same) ∙ (o.more.told ∙ (ap (λ (m : List (ℕ × ℕ)). m ++ (o.first.1.number, place) ∷ []) old
            ∙ (ap (λ (w : ℕ). calls_on node log ++ (w, place) ∷ []) (l.mine node o.first o.was ∙ sym who_is) ∙ (ap (λ (w : ℕ). calls_on node log ++ (e.who, w) ∷ []) (sym place_is)
            ∙ (sym (on_here node log e node_is) ∙ ap (λ (k : ℕ). calls_on k (log ++ e ∷ [])) (sym here)))))))
            (λ more. let other : e.node ≢ n = λ h. more (sym h ∙ node_is) in l.just n q (sym (elsewhere n more) ∙ at) ∙ sym (on_other n log e other));
      }

  -- one call of a client of a script
  module _ (script : Scripted) (client : ℕ) (may : ℕ → Bool) (log : List LogEntry) (e : LogEntry) where
    pub called_more : HasCalled script client may c log → e.node ≡ node → e.place ≡ place → e.step ≡ length log → e.who ≡ c.who → Tells e x
        → IsEvent (plays_of client script) (next_event client script (replies log)) e → ((stream : List (List ℕ)) → IsFrom (sources script stream (suc client)) x.invocation) → e.response ≢ NoMemory → IsGiven may e.act
        → (IsSome (waits_on client script (replies log)) → (last : LogEntry) (i : ℕ) → slice_get log i ≡ Some last → i + 1 ≡ length log → last.place + 1 < place)
        → HasCalled script client may d (log ++ e ∷ [])
    called_more l node_is place_is step_is who_is tells event from found given turn = record {
      who = who ∙ l.who;
      logged = logged_more log e l.logged node_is place_is step_is who_is tells;
      brought = λ stream. brings_more (sources script stream (suc client)) log e (l.brought stream) node_is place_is (from stream);
      events = asked_more log e script client l.events event;
      found = All-push (λ (z : LogEntry). z.response ≢ NoMemory) log e l.found found;
      moments = All-push (λ (z : LogEntry). IsGiven may z.act) log e l.moments given;
      paid = λ i f g at next waits. ⊎_elim
          (λ old. let low = slice_get_within log (i + 1) g old in
          l.paid i f g (inside i f (omega arith) at) old (subst (λ (m : List LogEntry). IsSome (waits_on client script (replies m))) (before log e (i + 1) (omega arith)) waits))
          (λ last. let long : i + 1 ≡ length log = last.0 in
          let w = subst (λ (m : List LogEntry). IsSome (waits_on client script (replies m))) (all (i + 1) long) waits in
          let t = turn w f i (inside i f (omega arith) at) long in
          let g_is : g.place ≡ place = ap (λ (z : LogEntry). z.place) (sym last.1) ∙ place_is in omega arith)
          (at_end log e g (i + 1) next);
    } where
      all : (i : ℕ) → i ≡ length log → take i (log ++ e ∷ []) ≡ log
      all i is = ap (λ (n : ℕ). take n (log ++ e ∷ [])) is ∙ take-append_seam log (e ∷ [])

      inside : (i : ℕ) (f : LogEntry) → i < length log → slice_get (log ++ e ∷ []) i ≡ Some f → slice_get log i ≡ Some f
      inside i f low at = ⊎_elim (λ old. old) (λ last. let e = last.0 in absurd (omega arith)) (at_end log e f i at)

-- ------ one look

module _ (c d : Caller) (S : List Entry → Type 0) (node len : ℕ) (o : OneLooks caller_of S node len c.passes d.passes) (who : d.who ≡ c.who) where
  pub logged_looked : (log : List LogEntry) → IsLogged c log → IsLogged d log
  logged_looked log l = record {
    mine = still_each c.passes d.passes node o.first o.then o.was o.is o.looked.seen (λ i (p : TableId × View Entry). p.1.number ≡ d.who) (o.looked.same.1 ∙ (l.mine node o.first o.was ∙ sym who)) (λ i p at. l.mine i p at ∙ sym who);
    steps = λ i f at. let s = l.steps i f at in (s.0, s.1 ∙ sym who);
    tells = λ i f at. let t = l.tells i f at in still c.passes d.passes node o.first o.then o.was o.is o.looked.seen (Tells f) f t.0 t.1 t.2;
    in_order = l.in_order;
    just = still_each c.passes d.passes node o.first o.then o.was o.is o.looked.seen (λ i (p : TableId × View Entry). p.1.own ≡ calls_on i log) (o.looked.own ∙ l.just node o.first o.was) l.just;
  }

  brings_looked : (packets : Input → List (List ℕ)) (log : List LogEntry) → BringFrom packets c log → BringFrom packets d log
  brings_looked packets log l i f at = let t = l i f at in still c.passes d.passes node o.first o.then o.was o.is o.looked.seen (λ (y : Entry). IsFrom packets y.invocation) f t.0 t.1 t.2

  pub called_looked : (script : Scripted) (client : ℕ) (may : ℕ → Bool) (log : List LogEntry) → HasCalled script client may c log → HasCalled script client may d log
  called_looked script client may log l = record { who = who ∙ l.who; logged = logged_looked log l.logged; events = l.events; brought = λ stream. brings_looked (sources script stream (suc client)) log (l.brought stream); found = l.found; moments = l.moments; paid = l.paid }

  -- how many entries the pass has seen there
  pub seen_there : (p : TableId × View Entry) → slice_get d.passes node ≡ Some p → length p.1.seen ≡ len
  seen_there p at =
      let same : o.then ≡ p = one_value d.passes node o.then p (now_there c.passes d.passes node o.first o.then o.was o.is o.looked.seen) at in
      ap (λ (z : TableId × View Entry). length z.1.seen) (sym same) ∙ o.looked.long
