-- The merged histories tell what was called.
use Rattle.workers.proofs.Imports.{◌≡◌, ◌≢◌, ◌⊎◌, inl, inr, ⊎_elim, ℕ, zero, suc, ◌+◌, ◌≤◌, Bool, true, false, nat_lt, List, [], ◌∷◌, ◌++◌, length, length-append, map, slice_get, Some, refl, ap, sym, ◌∙◌, subst, arith, nat_tests, length-map, slice_get_within, TableId, View, Has, at_map, has_at, Fed, DEMUX_NODES, Act, ToldEntry, told_entry, Entry, Frontend, LogEntry, Sources, filled_entry, feeder_acts, feeder_entry, histories_of, woven, AreInPlace, in_place-at, woven_nodes-at, woven_nodes-length, StandsIn, steps_of, AreOnNodes, AreByPlace, Caller, AreAllCallers, IsHistory, HaveHistories, IsLegalAt, with_last, at_last, at_place, one_value, HaveCalled, IsLoggedIn, IsTheHistory, TellWhatWasCalled, steps_from, at_has}
use Rattle.std.proofs.Common.{All}
use Rattle.workers.proofs.Completing.{feeders_calls, nothing, same_column, whole, whole_full, whole_have}
use Rattle.workers.proofs.Weaves.{Rises, rises_less, weaves}
use Rattle.workers.proofs.Lists.{mapped}
use Rattle.workers.proofs.Members.{all_at, all_from, each_woven, has_woven, steps_woven}
use Rattle.workers.proofs.Calls.{has_all, all_has, RisesOn, AreApart, of_some_log, is_merged, merged_rise}
use Rattle.workers.proofs.Owning.{Moment, at_end, idle_there, made_by, passes_on, called, log_rises, logged_there, IsLoggedAt, IsFeeders, feeders_zero, owner, acts_by, told_here}

-- the logs as contracts see them
abbrev pub books_of : List (List ToldEntry) → List (List LogEntry)
books_of logs = map (λ log. map told_entry log) logs

-- ------ a node

module _ (m : Moment) where
  -- these are the entries of all logs on a node, at places that rise
  pub record AreCallsOn (node : ℕ) (calls : List LogEntry) : Type 0 where
    pub of_some : (j : ℕ) (e : LogEntry) → slice_get calls j ≡ Some e → (e.node ≡ node) × IsLoggedIn m.books e
    pub merged : (c : ℕ) (log : List LogEntry) (i : ℕ) (e : LogEntry) → slice_get m.books c ≡ Some log → slice_get log i ≡ Some e → e.node ≡ node → (j : ℕ) × (slice_get calls j ≡ Some e)
    pub rise : Rises 0 calls

  -- an entry of a log on the node, or one of these calls of the feeder
  abbrev pub IsToldBy : (node : ℕ) → List Act → LogEntry → Type 0
  IsToldBy node acts e = ((e.node ≡ node) × IsLoggedIn m.books e) ⊎ ((e ≡ feeder_entry node e.place e.step e.act) × Has acts e.act)

  -- this list tells the history of a node: each entry stands at its place, and is one of a log or of the feeder's calls
  pub record TellsNode (acts : List Act) (node : ℕ) (l : List LogEntry) (h : List Entry) : Type 0 where
    pub place : AreInPlace 0 l
    pub is : map (filled_entry m.packets) l ≡ h
    pub told : (i : ℕ) (e : LogEntry) → slice_get l i ≡ Some e → IsToldBy node acts e
    pub logged : (e : LogEntry) → IsLoggedIn m.books e → e.node ≡ node → slice_get l e.place ≡ Some e
    pub steps : steps_of 0 l ≡ steps_from 0 acts

  -- the feeder's calls on a node
  abbrev pub acts_on : (node : ℕ) → List Act
  acts_on node = acts_by m (slice_get m.feeder.passes node)

  module _ (node : ℕ) (h : List Entry) (is : IsHistory node (passes_on m node) h) where
    pub tells_node : (calls : List LogEntry) → AreCallsOn node calls → TellsNode (acts_on node) node (woven node (acts_on node) calls) h
    tells_node calls on =
        let w = weaves m.packets node h 0 0 (acts_on node) calls on.rise (told_here m node h is calls on.of_some on.merged) in
        record {
          place = w.0;
          is = w.1;
          told = all_at (IsToldBy node (acts_on node)) (woven node (acts_on node) calls)
              (each_woven (IsToldBy node (acts_on node)) (Has (acts_on node)) node (λ place step a has. inr (refl, has)) calls (all_from (IsToldBy node (acts_on node)) calls (λ j e at. inl (on.of_some j e at)))
              0 0 (acts_on node) (all_from (Has (acts_on node)) (acts_on node) (λ i a at. has_at (acts_on node) a i at)));
          logged = λ e l here.
              let j = on.merged l.0 l.1 l.2 e l.3 l.4 here in
              let k = at_has (woven node (acts_on node) calls) e (has_woven node calls j.0 e j.1 0 0 (acts_on node)) in
              let place : e.place ≡ 0 + k.0 = in_place-at 0 (woven node (acts_on node) calls) w.0 k.0 e k.1 in
              let same : k.0 ≡ e.place = omega (arith, place) in
              subst (λ n. slice_get (woven node (acts_on node) calls) n ≡ Some e) {x = k.0} same k.1;
          steps = steps_woven node calls
              (all_from (λ (e : LogEntry). e.who ≢ 0) calls (λ j e at zero_is. let s = (on.of_some j e at).1 in let c = called m s.0 s.1 s.2 e s.3 s.4 in absurd (omega (arith, c.1, zero_is)))) 0 0 (acts_on node);
        }

    -- ------ the entries of the logs on it

    -- those from a place of the history on
    record CallsFrom (k : ℕ) (rest : List Entry) : Type 0 where
      calls : List LogEntry
      of_some : (j : ℕ) (e : LogEntry) → slice_get calls j ≡ Some e → (e.node ≡ node) × IsLoggedIn m.books e
      all : (i : ℕ) (x : Entry) → slice_get rest i ≡ Some x → x.who ≢ 0 → (j : ℕ) × (e : LogEntry) × (slice_get calls j ≡ Some e) × (e.place ≡ k + i)
      rise : Rises k calls

    one_more : (k : ℕ) (x : Entry) (rest : List Entry) → IsLoggedAt m.books node x.who k ⊎ IsFeeders m node h is x.who k → CallsFrom (suc k) rest → CallsFrom k (x ∷ rest)
    one_more k x rest (inl l) more = record { calls = l.entry ∷ more.calls; of_some = λ j e at. some j e at; all = λ i y at not. found i y at not; rise = (omega (arith, l.there), subst (λ n. Rises (suc n) more.calls) (sym l.there) more.rise) } where
      some : (j : ℕ) (e : LogEntry) → slice_get (l.entry ∷ more.calls) j ≡ Some e → (e.node ≡ node) × IsLoggedIn m.books e
      some zero e at = let same : l.entry ≡ e = cc at in subst (λ y. (y.node ≡ node) × IsLoggedIn m.books y) same (l.on, (l.client, l.log, l.index, l.book, l.at))
      some (suc j) e at = more.of_some j e at

      found : (i : ℕ) (y : Entry) → slice_get (x ∷ rest) i ≡ Some y → y.who ≢ 0 → (j : ℕ) × (e : LogEntry) × (slice_get (l.entry ∷ more.calls) j ≡ Some e) × (e.place ≡ k + i)
      found zero y at not = (0, l.entry, refl, omega (arith, l.there))
      found (suc i) y at not = let f = more.all i y at not in (suc f.0, f.1, f.2, omega (arith, f.3))
    one_more k x rest (inr f) more = record { calls = more.calls; of_some = more.of_some; all = λ i y at not. found i y at not; rise = rises_less k more.calls more.rise } where
      found : (i : ℕ) (y : Entry) → slice_get (x ∷ rest) i ≡ Some y → y.who ≢ 0 → (j : ℕ) × (e : LogEntry) × (slice_get more.calls j ≡ Some e) × (e.place ≡ k + i)
      found zero y at not = let same : x ≡ y = cc at in absurd (not (ap (λ (z : Entry). z.who) (sym same) ∙ feeders_zero m node h is x.who k f))
      found (suc i) y at not = let g = more.all i y at not in (g.0, g.1, g.2, omega (arith, g.3))

    calls_from : (k : ℕ) (rest : List Entry) → ((i : ℕ) (x : Entry) → slice_get rest i ≡ Some x → slice_get h (k + i) ≡ Some x) → CallsFrom k rest
    calls_from k [] there = record { calls = []; of_some = λ j e at. absurd (cc at); all = λ i x at not. absurd (cc at); rise = tt }
    calls_from k (x ∷ rest) there =
        one_more k x rest (owner m node h is k x (let n : k + 0 ≡ k = omega arith in subst (λ n. slice_get h n ≡ Some x) n (there 0 x refl)))
        (calls_from (suc k) rest (λ i y at. let n : k + suc i ≡ suc k + i = omega arith in subst (λ n. slice_get h n ≡ Some y) n (there (suc i) y at)))

    -- two entries of logs at one place are one
    one_entry : (e f : LogEntry) → IsLoggedIn m.books e → IsLoggedIn m.books f → e.node ≡ node → f.node ≡ node → e.place ≡ f.place → e ≡ f
    one_entry e f (c, a, i, at_c, at) (d, b, j, at_d, bt) on on_f same =
        let x = logged_there m node h is c a i e at_c at on in
        let y = logged_there m node h is d b j f at_d bt on_f in
        let one : filled_entry m.packets e ≡ filled_entry m.packets f = one_value h f.place (filled_entry m.packets e) (filled_entry m.packets f) (subst (λ n. slice_get h n ≡ Some (filled_entry m.packets e)) same x) y in
        let client : c ≡ d = omega (arith, ap (λ (z : Entry). z.who) one, (called m c a i e at_c at).1, (called m d b j f at_d bt).1) in
        let log : b ≡ a = one_value m.books d b a at_d (subst (λ n. slice_get m.books n ≡ Some a) client at_c) in
        in_log (subst (λ l. slice_get l j ≡ Some f) log bt) (nat_lt i j) refl (nat_lt j i) refl where
          in_log : slice_get a j ≡ Some f → (u : Bool) → nat_lt i j ≡ u → (v : Bool) → nat_lt j i ≡ v → e ≡ f
          in_log there true less v any = absurd (let up = log_rises m c a at_c i j e f (grind (arith, nat_tests, less)) at there (on ∙ sym on_f) in omega (arith, up, same))
          in_log there false nay true less = absurd (let up = log_rises m c a at_c j i f e (grind (arith, nat_tests, less)) there at (on_f ∙ sym on) in omega (arith, up, same))
          in_log there false nay false more = one_value a j e f (let n : i ≡ j = grind (arith, nat_tests, nay, more) in subst (λ n. slice_get a n ≡ Some e) n at) there

    -- the history tells which they are
    pub calls_there : (calls : List LogEntry) × AreCallsOn node calls
    calls_there =
        let f : CallsFrom 0 h = calls_from 0 h (λ i x at. let n : i ≡ 0 + i = omega arith in subst (λ n. slice_get h n ≡ Some x) n at) in
        (f.calls, record { of_some = f.of_some; merged = λ c log i e at there on. found f c log i e at there on; rise = f.rise }) where
          found : (f : CallsFrom 0 h) (c : ℕ) (log : List LogEntry) (i : ℕ) (e : LogEntry) → slice_get m.books c ≡ Some log → slice_get log i ≡ Some e → e.node ≡ node → (j : ℕ) × (slice_get f.calls j ≡ Some e)
          found f c log i e at there on =
              let who = (called m c log i e at there).1 in
              let g = f.all e.place (filled_entry m.packets e) (logged_there m node h is c log i e at there on) (λ none. absurd (omega (arith, who, none))) in
              let o = f.of_some g.0 g.1 g.2 in
              (g.0, g.2 ∙ ap (λ z. Some z) (one_entry g.1 e o.1 (c, log, i, at, there) o.0 on (omega (arith, g.3))))

  -- ------ all nodes

  -- a node's list is woven of the entries of the logs on it and of the feeder's calls
  abbrev pub IsWoven : (node : ℕ) → List LogEntry → Type 0
  IsWoven node l = (calls : List LogEntry) × AreCallsOn node calls × (woven node (acts_on node) calls ≡ l)

  pub record AreWoven (hs : List (List LogEntry)) : Type 0 where
    pub many : length hs ≡ DEMUX_NODES + 1
    pub each : (node : ℕ) (l : List LogEntry) → slice_get hs node ≡ Some l → IsWoven node l

  pub tells : (node : ℕ) (l : List LogEntry) → IsWoven node l → (h : List Entry) → IsHistory node (passes_on m node) h → TellsNode (acts_on node) node l h
  tells node l w h is = subst (λ (k : List LogEntry). TellsNode (acts_on node) node k h) w.2 (tells_node node h is w.0 w.1)

  module _ (have : HaveHistories (m.others ++ m.feeder ∷ [])) where
    woven_to : (n : ℕ) → n ≤ DEMUX_NODES + 1 → (hs : List (List LogEntry)) × (length hs ≡ n) × ((node : ℕ) (l : List LogEntry) → slice_get hs node ≡ Some l → IsWoven node l)
    woven_to zero le = ([], refl, λ node l at. absurd (cc at))
    woven_to (suc n) le =
        let before = woven_to n (omega (arith, le)) in
        let h = have n (omega (arith, le)) in
        let f = calls_there n h.0 h.1 in
        let l : List LogEntry = woven n (acts_on n) f.0 in (
          before.0 ++ l ∷ [],
          omega (arith, length-append before.0 (l ∷ []), before.1),
          λ node k at. ⊎_elim (λ old. before.2 node k old) (λ new. subst (IsWoven node) new.1 (subst (λ i. IsWoven i l) (sym (new.0 ∙ before.1)) (f.0, f.1, refl))) (with_last before.0 l k node at),
        )

    -- there are such lists, whenever it is
    pub are_woven : (hs : List (List LogEntry)) × AreWoven hs
    are_woven = let all = woven_to (DEMUX_NODES + 1) (omega arith) in (all.0, record { many = all.1; each = all.2 })

    module _ (low : (e : LogEntry) → IsLoggedIn m.books e → e.node ≤ DEMUX_NODES) (hs : List (List LogEntry)) (w : AreWoven hs) where
      pub node_low : (node : ℕ) (l : List LogEntry) → slice_get hs node ≡ Some l → node ≤ DEMUX_NODES
      node_low node l at = omega (arith, slice_get_within hs node l at, w.many)

      -- what the list of a node tells
      pub there : (node : ℕ) (l : List LogEntry) → slice_get hs node ≡ Some l → (h : List Entry) × IsHistory node (passes_on m node) h × TellsNode (acts_on node) node l h
      there node l at = let h = have node (node_low node l at) in (h.0, h.1, tells node l (w.each node l at) h.0 h.1)

      pub stands : (e : LogEntry) → IsLoggedIn m.books e → StandsIn hs e
      stands e l = let h = at_place hs e.node (omega (arith, low e l, w.many)) in (h.0, h.1, (there e.node h.0 h.1).2.logged e l refl)

-- ------ what the code makes

-- the feeder has a pass of each node
pub full : (locks : List TableId) (others : List Caller) (feeder : Caller) → AreAllCallers locks (others ++ feeder ∷ []) → length locks ≡ DEMUX_NODES + 1
    → (node : ℕ) → node ≤ DEMUX_NODES → (p : TableId × View Entry) × (slice_get feeder.passes node ≡ Some p)
full locks others feeder all long node low = at_place feeder.passes node (omega (arith, (all.fits (length others) feeder (at_last others feeder)).0, long, low))

-- where the feeder has called some nodes, and the clients none but these, all of it stands in histories as if it had called all
pub have_whole : (among : ℕ → Bool) (packets : Sources) (feeder : Caller) (fs : List Fed) (others : List Caller) (books : List (List LogEntry)) → HaveCalled among packets feeder fs others books
    → HaveHistories (others ++ feeder ∷ []) → HaveHistories (others ++ whole among (made_by true (packets 0 Frontend) fs) feeder ∷ [])
have_whole among packets feeder fs others books c have =
    whole_have among (made_by true (packets 0 Frontend) fs) feeder others (feeders_calls true (packets 0 Frontend) fs) c.fed (idle_there among others books c.logs packets c.each c.named) have

module _ (among : ℕ → Bool) (packets : Sources) (feeder : Caller) (fs : List Fed) (others : List Caller) (books : List (List LogEntry)) (c : HaveCalled among packets feeder fs others books)
    (full_row : (node : ℕ) → node ≤ DEMUX_NODES → (p : TableId × View Entry) × (slice_get feeder.passes node ≡ Some p)) (had : HaveHistories (others ++ feeder ∷ [])) (low : (e : LogEntry) → IsLoggedIn books e → e.node ≤ DEMUX_NODES) where
  abbrev when : Moment
  when = at_end among packets feeder fs others books c

  have : HaveHistories (others ++ whole among (made_by true (packets 0 Frontend) fs) feeder ∷ [])
  have = have_whole among packets feeder fs others books c had

  all : (node : ℕ) → node ≤ DEMUX_NODES → (p : TableId × View Entry) × (slice_get (whole among (made_by true (packets 0 Frontend) fs) feeder).passes node ≡ Some p)
  all = whole_full among (made_by true (packets 0 Frontend) fs) feeder full_row

  -- an entry of a node that nobody has called is the feeder's
  idle_zero : (node : ℕ) → among node ≡ false → (e : LogEntry) → IsToldBy when node (acts_on when node) e → e.who ≡ 0
  idle_zero node off e t = ⊎_elim (λ l. let both : true ≡ false = sym (c.named e l.1) ∙ (ap among l.0 ∙ off) in absurd (cc both)) (λ f. ap (λ (z : LogEntry). z.who) f.0) t

  pub tell : (hs : List (List LogEntry)) → AreWoven when hs → TellWhatWasCalled among packets feeder fs others books hs
  tell hs w = record {
    nodes = w.many;
    logged = stands when have low hs w;
    others = λ node place h e at here.
        let t = (there when have low hs w node h at).2 in
        let is : e.place ≡ place = omega (arith, in_place-at 0 h t.place place e here) in
        subst (λ k. IsLoggedIn books e ⊎ (e ≡ feeder_entry node k e.step e.act)) is (⊎_elim (λ l. inl l.1) (λ f. inr f.0) (t.told place e here));
    fed = λ node h at. let t = there when have low hs w node h at in t.2.steps ∙ ap (λ o. steps_from 0 (acts_by when o)) (all node (node_low when have low hs w node h at)).1;
    locks = λ node h at called.
        let t = there when have low hs w node h at in
        subst (λ ps. IsTheHistory node ps (map (filled_entry packets) h))
        (same_column among (made_by true (packets 0 Frontend) fs) feeder others (feeders_calls true (packets 0 Frontend) fs) c.fed (idle_there among others books c.logs packets c.each c.named) had node called)
        (subst (IsHistory node (passes_on when node)) (sym t.2.is) t.1, λ other is. sym (tells when node h (w.each node h at) other is).is);
    idle = λ node h at off.
        let t = there when have low hs w node h at in (
          nothing among (made_by true (packets 0 Frontend) fs) feeder others (feeders_calls true (packets 0 Frontend) fs) c.fed (idle_there among others books c.logs packets c.each c.named) had node off (node_low when have low hs w node h at),
          subst (IsLegalAt node) (sym t.2.is) t.1.legal,
          all_has (λ (e : LogEntry). e.who ≡ 0) h (λ e has. let i = at_has h e has in idle_zero node off e (t.2.told i.0 e i.1)),
        );
  }

module _ (among : ℕ → Bool) (packets : Sources) (feeder : Caller) (fs : List Fed) (others : List Caller) (logs : List (List ToldEntry)) (c : HaveCalled among packets feeder fs others (books_of logs))
    (full_row : (node : ℕ) → node ≤ DEMUX_NODES → (p : TableId × View Entry) × (slice_get feeder.passes node ≡ Some p)) (nodes : List (List ToldEntry)) (merged : AreByPlace logs nodes) (had : HaveHistories (others ++ feeder ∷ [])) where
  abbrev m : Moment
  m = at_end among packets feeder fs others (books_of logs) c

  -- the entry of a log, as the code keeps it
  book_at : (c : ℕ) (log : List LogEntry) (i : ℕ) (e : LogEntry) → slice_get (books_of logs) c ≡ Some log → slice_get log i ≡ Some e → (l : List ToldEntry) × (slice_get logs c ≡ Some l) × ((x : ToldEntry) × (slice_get l i ≡ Some x) × (told_entry x ≡ e))
  book_at c log i e at there = let l = mapped (λ log. map told_entry log) logs c log at in (l.0, l.1, mapped told_entry l.0 i e (subst (λ z. slice_get z i ≡ Some e) (sym l.2) there))

  module _ (node : ℕ) (calls : List ToldEntry) (mine : slice_get nodes node ≡ Some calls) (h : List Entry) (is : IsHistory node (passes_on m node) h) where
    of_some : (j : ℕ) (e : LogEntry) → slice_get (map told_entry calls) j ≡ Some e → (e.node ≡ node) × IsLoggedIn (books_of logs) e
    of_some j e at =
        let x = mapped told_entry calls j e at in let l = of_some_log node logs calls (merged.entries node calls mine) x.0 (has_at calls x.0 j x.1) in
        let i = at_has l.1.1 x.0 l.1.3 in
        (ap (λ (z : LogEntry). z.node) (sym x.2) ∙ l.0, (l.1.0, map told_entry l.1.1, i.0, at_map (λ log. map told_entry log) logs l.1.0 l.1.1 l.1.2, at_map told_entry l.1.1 i.0 x.0 i.1 ∙ ap (λ z. Some z) x.2))

    in_calls : (c : ℕ) (log : List LogEntry) (i : ℕ) (e : LogEntry) → slice_get (books_of logs) c ≡ Some log → slice_get log i ≡ Some e → e.node ≡ node → (j : ℕ) × (slice_get (map told_entry calls) j ≡ Some e)
    in_calls c log i e at there on =
        let b = book_at c log i e at there in let x = b.2 in
        let j = at_has calls x.0 (is_merged node logs calls (merged.entries node calls mine) c b.0 x.0 b.1 (has_at b.0 x.0 i x.1) (ap (λ (z : LogEntry). z.node) x.2 ∙ on)) in
        (j.0, at_map told_entry calls j.0 x.0 j.1 ∙ ap (λ z. Some z) x.2)

    -- an entry of a log of the code is one of the logs
    abbrev kept : (c : ℕ) (a : List ToldEntry) (e : ToldEntry) → slice_get logs c ≡ Some a → Has a e → IsLoggedIn (books_of logs) (told_entry e)
    kept c a e at has = let i = at_has a e has in (c, map told_entry a, i.0, at_map (λ log. map told_entry log) logs c a at, at_map told_entry a i.0 e i.1)

    rise_on : (c : ℕ) (log : List ToldEntry) → slice_get logs c ≡ Some log → RisesOn node log
    rise_on c log at i j e f less a b on on_f =
        log_rises m c (map told_entry log) (at_map (λ log. map told_entry log) logs c log at)
        i j (told_entry e) (told_entry f) less (at_map told_entry log i e a) (at_map told_entry log j f b) (on ∙ sym on_f)

    are_apart : AreApart node logs
    are_apart c d a b e f at_c at_d here there on on_f same =
        let x = kept c a e at_c here in let y = kept d b f at_d there in
        let who : e.who ≡ f.who = ap (λ (z : LogEntry). z.who) (one_entry m node h is (told_entry e) (told_entry f) x y on on_f same) in
        omega (arith, who, (called m c x.1 x.2 (told_entry e) x.3 x.4).1, (called m d y.1 y.2 (told_entry f) y.3 y.4).1)

    are_calls : AreCallsOn m node (map told_entry calls)
    are_calls = record { of_some = of_some; merged = in_calls; rise = merged_rise node logs calls (merged.entries node calls mine) (merged.in_order node calls mine) rise_on are_apart }

  -- the merged histories are woven so
  pub merged_woven : AreWoven m (histories_of fs nodes)
  merged_woven = record { many = long ∙ merged.many; each = λ node l at. each node l at } where
    long : length (histories_of fs nodes) ≡ length nodes
    long = woven_nodes-length 0 (feeder_acts fs) (map (λ calls. map told_entry calls) nodes) ∙ length-map nodes (λ calls. map told_entry calls)

    each : (node : ℕ) (l : List LogEntry) → slice_get (histories_of fs nodes) node ≡ Some l → IsWoven m node l
    each node l at =
        let within = slice_get_within (histories_of fs nodes) node l at in
        let low : node ≤ DEMUX_NODES = omega (arith, within, long, merged.many) in
        let calls = at_place nodes node (omega (arith, within, long)) in
        let h = have_whole among packets feeder fs others (books_of logs) c had node low in
        let zero_on : 0 + node ≡ node = omega arith in
        let here : slice_get (histories_of fs nodes) node ≡ Some (woven node (feeder_acts fs) (map told_entry calls.0)) =
        woven_nodes-at 0 (feeder_acts fs) (map (λ calls. map told_entry calls) nodes) node (map told_entry calls.0) (at_map (λ calls. map told_entry calls) nodes node calls.0 calls.1)
        ∙ ap (λ n. Some (woven n (feeder_acts fs) (map told_entry calls.0))) zero_on in (
          map told_entry calls.0,
          are_calls node calls.0 calls.1 h.0 h.1,
          ap (λ o. woven node (acts_by m o) (map told_entry calls.0)) (whole_full among (made_by true (packets 0 Frontend) fs) feeder full_row node low).1 ∙ one_value (histories_of fs nodes) node (woven node (feeder_acts fs) (map told_entry calls.0)) l here at,
        )

-- ------ the logs as the code keeps them

pub nodes_low : (logs : List (List ToldEntry)) → All (λ log. AreOnNodes log) logs → (e : LogEntry) → IsLoggedIn (books_of logs) e → e.node ≤ DEMUX_NODES
nodes_low logs all e (c, log, i, at, there) =
    let l = mapped (λ log. map told_entry log) logs c log at in
    let x = mapped told_entry l.0 i e (subst (λ z. slice_get z i ≡ Some e) (sym l.2) there) in
    subst (λ (y : LogEntry). y.node ≤ DEMUX_NODES) x.2 (has_all (λ (e : ToldEntry). e.node ≤ DEMUX_NODES) l.0 (has_all (λ (log : List ToldEntry). AreOnNodes log) logs all l.0 (has_at logs l.0 c l.1)) x.0 (has_at l.0 x.0 i x.1))
