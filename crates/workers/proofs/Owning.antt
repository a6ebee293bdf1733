-- Each entry of a node's history is in a client's log, or is the feeder's; so the logs and the batches tell the history.
use Rattle.workers.proofs.Imports.{◌≡◌, ◌≢◌, ◌⊎◌, inl, inr, ⊎_elim, ℕ, suc, Bool, true, false, eq-eqb, ne_eqb, ◌+◌, List, [], ◌∷◌, ◌++◌, length, filter, slice_get, Option, Some, None, refl, ap, sym, ◌∙◌, subst, arith, if◌then◌else◌, slice_get_within, dite, some, some-injective, get_elem?, IsPrefix, ℕ_discrete, TableId, View, Has, prefix_at, Fed, Act, Entry, entry_of, Frontend, IsFrom, LogEntry, Sources, filled_act, filled_entry, fills, column, Caller, IsHistory, rows_of, at_place, at_either, at_last, at_before, one_value, Tells, calls_on, AreInOrder, HasMade, fed_entries, HasLogged, HaveCalled, IsLoggedIn, in_column, of_column, has_either, all_calls}
use Rattle.workers.proofs.Weaves.{AreTold, fed_of, by_feeder}
use Rattle.workers.proofs.Feeders.{got, got_back, ups_from, picked, stand_picks, has_own, fed_is, fed_zero, acts_of, behind_of}
use Rattle.workers.proofs.Completing.{whole, whole_made}

-- ------ The passes of one node, those of all callers, and their calls
-- a call of these passes is one of some pass
pub some_calls : (ps : List (TableId × View Entry)) (w : ℕ × ℕ) → Has (all_calls ps) w → (j : ℕ) × (p : TableId × View Entry) × (slice_get ps j ≡ Some p) × Has p.1.own w
some_calls [] w has = absurd has
some_calls (p ∷ ps) w has = ⊎_elim (λ h. let r = some_calls ps w h in (suc r.0, r.1, r.2, r.3)) (λ h. (0, p, refl, h)) (has_either (all_calls ps) p.1.own w has)

-- an entry of a client, filled with the packets that its caller brings, is the one that it tells
fills_entry : (packets : Sources) (e : LogEntry) (x : Entry) → Tells e x → IsFrom (packets e.who) x.invocation → filled_entry packets e ≡ x
fills_entry packets e x t from =
    ap (λ w. entry_of w (filled_act (packets e.who) e.act) e.response) t.who ∙ ap (λ a. entry_of x.who (filled_act (packets e.who) a) e.response) t.act
    ∙ ap (λ c. entry_of x.who c e.response) (fills (packets e.who) x.invocation from) ∙ ap (entry_of x.who x.invocation) t.response

-- what is seen at a place is one entry
one_seen : (h : List Entry) (place : ℕ) (x y : Entry) → get_elem? h place ≡ some x → get_elem? h place ≡ some y → x ≡ y
one_seen h place x y at there = some-injective x y (sym at ∙ there)

-- ------ the entries of logs

-- a call on a node is an entry of the log
some_entry : (node : ℕ) (log : List LogEntry) (who place : ℕ) → Has {A = ℕ × ℕ} (calls_on node log) (who, place) → (i : ℕ) × (e : LogEntry) × (slice_get log i ≡ Some e) × (e.node ≡ node) × (e.who ≡ who) × (e.place ≡ place)
some_entry node [] who place has = absurd has
some_entry node (x ∷ log) who place has = dite (ℕ_discrete x.node node)
    (λ on. ⊎_elim (λ is. (0, x, refl, on, ap (λ (z : ℕ × ℕ). z.0) is, ap (λ (z : ℕ × ℕ). z.1) is)) (λ more. behind (some_entry node log who place more))
    (subst (λ b. Has {A = ℕ × ℕ} (if b then (x.who, x.place) ∷ calls_on node log else calls_on node log) (who, place)) (eq-eqb x.node node on) has))
    (λ off. behind (some_entry node log who place (subst (λ b. Has {A = ℕ × ℕ} (if b then (x.who, x.place) ∷ calls_on node log else calls_on node log) (who, place)) (ne_eqb x.node node off) has))) where
      behind : (i : ℕ) × (e : LogEntry) × (slice_get log i ≡ Some e) × (e.node ≡ node) × (e.who ≡ who) × (e.place ≡ place)
          → (i : ℕ) × (e : LogEntry) × (slice_get (x ∷ log) i ≡ Some e) × (e.node ≡ node) × (e.who ≡ who) × (e.place ≡ place)
      behind r = (suc r.0, r.1, r.2, r.3, r.4, r.5)

-- a log without entries on a node has no call there
calls_none : (node : ℕ) (log : List LogEntry) → ((i : ℕ) (e : LogEntry) → slice_get log i ≡ Some e → e.node ≢ node) → calls_on node log ≡ []
calls_none node [] none = refl
calls_none node (e ∷ log) none = ap (λ b. if b then (e.who, e.place) ∷ calls_on node log else calls_on node log) (ne_eqb e.node node (none 0 e refl)) ∙ calls_none node log (λ i f at. none (suc i) f at)

-- where no entry of a log is on a node, no client has called it
module _ (among : ℕ → Bool) (others : List Caller) (books : List (List LogEntry)) (logs : length books ≡ length others)
    (packets : Sources) (each : (c : ℕ) (client : Caller) (log : List LogEntry) → slice_get others c ≡ Some client → slice_get books c ≡ Some log → HasLogged packets c client log)
    (named : (e : LogEntry) → IsLoggedIn books e → among e.node ≡ true) where
  pub idle_there : (node : ℕ) → among node ≡ false → (k : ℕ) (c : Caller) (p : TableId × View Entry) → slice_get others k ≡ Some c → slice_get c.passes node ≡ Some p → p.1.own ≡ []
  idle_there node off k c p at is =
      let low = slice_get_within others k c at in let n = logs in let log = at_place books k (omega arith) in
      (each k c log.0 at log.1).logged.just node p is
      ∙ calls_none node log.0 (λ i e here on. let both : true ≡ false = sym (named e (k, log.0, i, log.1, here)) ∙ (ap among on ∙ off) in absurd (cc both))

-- the entry of a log on a node that has this caller and this place
pub record IsLoggedAt (books : List (List LogEntry)) (node who place : ℕ) : Type 0 where
  pub client : ℕ
  pub log : List LogEntry
  pub index : ℕ
  pub entry : LogEntry
  pub book : slice_get books client ≡ Some log
  pub at : slice_get log index ≡ Some entry
  pub on : entry.node ≡ node
  pub by : entry.who ≡ who
  pub there : entry.place ≡ place

-- ------ what was called so far

-- The feeder's calls so far on the nodes of which it has a pass, and each client's, as its log has them.
pub record Moment : Type 0 where
  pub packets : Sources
  pub acts : List Act
  pub feeder : Caller
  pub others : List Caller
  pub books : List (List LogEntry)
  pub fed : (node : ℕ) (p : TableId × View Entry) → slice_get feeder.passes node ≡ Some p → HasMade (fed_of packets acts) p
  pub logs : length books ≡ length others
  pub each : (c : ℕ) (client : Caller) (log : List LogEntry) → slice_get others c ≡ Some client → slice_get books c ≡ Some log → HasLogged packets c client log

-- what the feeder makes of its batches, and then of the end or not yet
abbrev pub made_by : (over : Bool) (stream : List (List ℕ)) → List Fed → List Entry
made_by over stream feeding = fed_entries stream feeding ++ behind_of over

-- The moment at which all was called. The feeder is seen as if it had called every node.
abbrev pub at_end : (among : ℕ → Bool) (packets : Sources) (feeder : Caller) (feeding : List Fed) (others : List Caller) (books : List (List LogEntry)) → HaveCalled among packets feeder feeding others books → Moment
at_end among packets feeder feeding others books w = record {
  packets = packets;
  acts = acts_of true feeding;
  feeder = whole among (made_by true (packets 0 Frontend) feeding) feeder;
  others = others;
  books = books;
  fed = λ node p at. subst (λ es. HasMade es p) (fed_is true packets feeding) (whole_made among (made_by true (packets 0 Frontend) feeding) feeder w.fed node p at);
  logs = w.logs;
  each = w.each;
}

module _ (m : Moment) where
  -- the passes of all callers on a node
  abbrev pub passes_on : (node : ℕ) → List (TableId × View Entry)
  passes_on node = column node (rows_of (m.others ++ m.feeder ∷ []))

  -- what the feeder has called on a node, by its pass; where it has none, nothing
  abbrev pub acts_by : Option (TableId × View Entry) → List Act
  acts_by None = []
  acts_by (Some p) = m.acts

  -- the client of a log
  client_of : (c : ℕ) (log : List LogEntry) → slice_get m.books c ≡ Some log → (client : Caller) × (slice_get m.others c ≡ Some client) × HasLogged m.packets c client log
  client_of c log at =
      let low = slice_get_within m.books c log at in let n = m.logs in
      let client = at_place m.others c (omega arith) in
      (client.0, client.1, m.each c client.0 log client.1 at)

  log_of : (c : ℕ) (client : Caller) → slice_get m.others c ≡ Some client → (log : List LogEntry) × (slice_get m.books c ≡ Some log) × HasLogged m.packets c client log
  log_of c client at =
      let low = slice_get_within m.others c client at in let n = m.logs in
      let log = at_place m.books c (omega arith) in
      (log.0, log.1, m.each c client log.0 at log.1)

  pub called : (c : ℕ) (log : List LogEntry) (i : ℕ) (e : LogEntry) → slice_get m.books c ≡ Some log → slice_get log i ≡ Some e → (e.step ≡ i) × (e.who ≡ c + 1)
  called c log i e at there = let k = client_of c log at in let s = k.2.logged.steps i e there in (s.0, s.1 ∙ k.2.who)

  -- on each node the places of a log rise
  pub log_rises : (c : ℕ) (log : List LogEntry) → slice_get m.books c ≡ Some log → AreInOrder log
  log_rises c log at = (client_of c log at).2.logged.in_order

  module _ (node : ℕ) (h : List Entry) (is : IsHistory node (passes_on node) h) where
    begins : (k : ℕ) (c : Caller) (p : TableId × View Entry) → slice_get (m.others ++ m.feeder ∷ []) k ≡ Some c → slice_get c.passes node ≡ Some p → IsPrefix p.1.seen h
    begins k c p at there = let j = of_column node (m.others ++ m.feeder ∷ []) k c p at there in is.begins j.0 p j.1

    -- the entry of a log stands at its place
    pub logged_there : (c : ℕ) (log : List LogEntry) (i : ℕ) (e : LogEntry) → slice_get m.books c ≡ Some log → slice_get log i ≡ Some e → e.node ≡ node → slice_get h e.place ≡ Some (filled_entry m.packets e)
    logged_there c log i e at there on =
        let k = client_of c log at in let t = k.2.logged.tells i e there in
        let begun = begins c k.0 t.0 (at_before m.others (m.feeder ∷ []) c k.0 k.1) (subst (λ n. slice_get k.0.passes n ≡ Some t.0) on t.1) in
        let b = k.2.brought i e there in
        let pass : b.0 ≡ t.0 = one_value k.0.passes e.node b.0 t.0 b.1 t.1 in
        let one : b.2.0 ≡ t.2.0 = one_seen t.0.1.seen e.place b.2.0 t.2.0 (subst (λ (p : TableId × View Entry). get_elem? p.1.seen e.place ≡ some b.2.0) pass b.2.1) t.2.1 in
        let from : IsFrom (m.packets e.who) t.2.0.invocation =
        subst (λ who. IsFrom (m.packets who) t.2.0.invocation) (sym (k.2.logged.steps i e there).1) (subst (λ (x : Entry). IsFrom (m.packets k.0.who) x.invocation) one b.2.2) in
        got h e.place t.2.0 (prefix_at t.0.1.seen h e.place t.2.0 begun t.2.1) ∙ ap (λ z. Some z) (sym (fills_entry m.packets e t.2.0 t.2.2 from))

    -- a call of the feeder's pass
    abbrev pub IsFeeders : (who place : ℕ) → Type 0
    IsFeeders who place = (p : TableId × View Entry) × (slice_get m.feeder.passes node ≡ Some p) × Has {A = ℕ × ℕ} p.1.own (who, place)

    pub owner : (place : ℕ) (x : Entry) → slice_get h place ≡ Some x → IsLoggedAt m.books node x.who place ⊎ IsFeeders x.who place
    owner place x at =
        let s = some_calls (passes_on node) (x.who, place) (is.just.only place x (got_back h place x at)) in
        let c = in_column node (m.others ++ m.feeder ∷ []) s.0 s.1 s.2 in
        ⊎_elim (λ old. inl (of_client c.0 c.1 s.1 old c.3 s.3)) (λ same. inr (s.1, subst (λ (z : Caller). slice_get z.passes node ≡ Some s.1) (sym same) c.3, s.3)) (at_either m.others m.feeder c.1 c.0 c.2) where
          of_client : (k : ℕ) (c : Caller) (p : TableId × View Entry) → slice_get m.others k ≡ Some c → slice_get c.passes node ≡ Some p → Has {A = ℕ × ℕ} p.1.own (x.who, place) → IsLoggedAt m.books node x.who place
          of_client k c p old there has =
              let l = log_of k c old in let e = some_entry node l.0 x.who place (subst (λ (z : List (ℕ × ℕ)). Has z (x.who, place)) (l.2.logged.just node p there) has) in
              record { client = k; log = l.0; index = e.0; entry = e.1; book = l.1; at = e.2; on = e.3; by = e.4; there = e.5 }

    not_client : (place : ℕ) → IsLoggedAt m.books node 0 place → ⊥
    not_client place l = let c = called l.client l.log l.index l.entry l.book l.at in let b = l.by in absurd (omega (arith, c.1, b))

    -- the feeder's entries are just those that its pass has made
    made_is : (p : TableId × View Entry) → slice_get m.feeder.passes node ≡ Some p → filter by_feeder h ≡ fed_of m.packets m.acts
    made_is p there =
        let made = m.fed node p there in
        let begun = begins (length m.others) m.feeder p (at_last m.others m.feeder) there in
        picked h 0 (fed_of m.packets m.acts) made.places (ups_from 0 made.places (λ i q at. omega arith) made.rise) (stand_picks p.1.seen h begun (fed_of m.packets m.acts) made.places made.stand) (fed_zero m.packets m.acts)
        (λ i x at zero_is. ⊎_elim (λ l. absurd (not_client i (subst (λ n. IsLoggedAt m.books node n i) zero_is l))) (λ f. mine made i x.who f) (owner i x at)) where
          mine : (made : HasMade (fed_of m.packets m.acts) p) (i who : ℕ) → IsFeeders who i → Has made.places (0 + i)
          mine made i who f =
              let same : f.0 ≡ p = one_value m.feeder.passes node f.0 p f.1 there in
              let has : Has {A = ℕ × ℕ} p.1.own (who, i) = subst (λ (z : TableId × View Entry). Has {A = ℕ × ℕ} z.1.own (who, i)) same f.2 in
              let n : i ≡ 0 + i = omega arith in
              subst (Has made.places) n (has_own made.places who i (subst (λ (z : List (ℕ × ℕ)). Has z (who, i)) made.own has)).1

    pub feeders_zero : (who place : ℕ) → IsFeeders who place → who ≡ 0
    feeders_zero who place f = let made = m.fed node f.0 f.1 in (has_own made.places who place (subst (λ (z : List (ℕ × ℕ)). Has z (who, place)) made.own f.2)).0

    fed_by : (o : Option (TableId × View Entry)) → slice_get m.feeder.passes node ≡ o → filter by_feeder h ≡ fed_of m.packets (acts_by o)
    fed_by (Some p) is = made_is p is
    fed_by None is =
        picked h 0 [] [] tt tt tt
        (λ i x at zero_is. absurd (⊎_elim (λ l. not_client i (subst (λ n. IsLoggedAt m.books node n i) zero_is l)) (λ f. (let k : None ≡ Some f.0 = sym is ∙ f.1 in absurd (cc k))) (owner i x at)))

    -- the entries of all logs on the node, in any order
    module _ (calls : List LogEntry)
        (of_some : (j : ℕ) (e : LogEntry) → slice_get calls j ≡ Some e → (e.node ≡ node) × IsLoggedIn m.books e)
        (merged : (c : ℕ) (log : List LogEntry) (i : ℕ) (e : LogEntry) → slice_get m.books c ≡ Some log → slice_get log i ≡ Some e → e.node ≡ node → (j : ℕ) × (slice_get calls j ≡ Some e)) where
      not_feeder : (j : ℕ) (e : LogEntry) → slice_get calls j ≡ Some e → e.who ≢ 0
      not_feeder j e at zero_is = let s = of_some j e at in let c = called s.1.0 s.1.1 s.1.2 e s.1.3 s.1.4 in absurd (omega (arith, c.1, zero_is))

      -- the feeder's calls and the logs tell the history
      pub told_here : AreTold m.packets 0 (acts_by (slice_get m.feeder.passes node)) calls h
      told_here = record {
        feeder = fed_by (slice_get m.feeder.passes node) refl;
        callers = not_feeder;
        each = λ j e at. let s = of_some j e at in (e.place, omega arith, logged_there s.1.0 s.1.1 s.1.2 e s.1.3 s.1.4 s.0);
        only = λ i x at other. ⊎_elim (λ l. let j = merged l.client l.log l.index l.entry l.book l.at l.on in let t = l.there in (j.0, l.entry, j.1, omega (arith, t))) (λ f. absurd (other (feeders_zero x.who i f))) (owner i x at);
      }
