-- Callers of a script, joined at any moment, leave the histories of a run so far.
use Rattle.workers.proofs.Imports.{◌≡◌, ◌≢◌, ⊎_elim, ℕ, suc, ◌+◌, ◌<◌, ◌≤◌, Bool, true, false, List, [], ◌∷◌, ◌++◌, append-nil, length, map, take, slice_get, Option, Some, None, refl, ap, sym, ◌∙◌, subst, arith, IsSome, IsTrue, AllByRecursion, slice_get_within, TableId, View, Has, has_at, has_left, Fed, DEMUX_NODES, Act, EndAct, Entry, rules_at, IsLegalFor, LogEntry, Sources, filled, feeder_acts, feeder_entry, pass_act, in_place-at, clients_in, Scripted, waits_on, Step, feeding, replies, sources, steps_of, IsGiven, Others, IsPaidBehind, IsFedSoFar, HasDoneSoFar, IsSoFar, Caller, HaveHistories, at_place, one_value, BringFrom, HasCalled, Tiles, batch_of, HasLogged, IsLoggedIn, steps_from, at_has, made_before}
use Rattle.std.proofs.Common.{All}
use Rattle.std.specs.Prelude.{reverse}
use Rattle.dmx_calls.specs.Response.{NoMemory}
use Rattle.workers.proofs.Members.{all_at, steps_tile}
use Rattle.workers.proofs.Calls.{has_all}
use Rattle.workers.proofs.FullBatches.{sizes, total_is, given}
use Rattle.workers.proofs.Feeders.{acts_of}
use Rattle.workers.proofs.Owning.{Moment, acts_by, called}
use Rattle.workers.proofs.Merged.{AreWoven, there, stands}

-- a client of a script has made just the calls of its log
pub has_logged : (script : Scripted) (stream : List (List ℕ)) (c : ℕ) (may : ℕ → Bool) (client : Caller) (log : List LogEntry) → HasCalled script c may client log → HasLogged (sources script stream) c client log
has_logged script stream c may client log k = record {
  who = k.who;
  logged = k.logged;
  brought = let number : suc c ≡ client.who = omega (arith, k.who) in subst (λ who. BringFrom (sources script stream who) client log) number (k.brought stream);
}

-- the steps of the first calls begin those of all
pub steps_begin : (step : ℕ) (acts more : List Act) → (later : List Step) × (steps_from step acts ++ later ≡ steps_from step (acts ++ more))
steps_begin step [] more = (steps_from step more, refl)
steps_begin step (a ∷ acts) more = let deeper = steps_begin (suc step) acts more in (deeper.0, ap (λ (l : List Step). record { step = step; act = a } ∷ l) deeper.1)

pub steps_so_far : (over : Bool) (fs : List Fed) → (later : List Step) × (steps_from 0 (acts_of over fs) ++ later ≡ steps_from 0 (feeder_acts fs))
steps_so_far true fs = ([], append-nil (steps_from 0 (feeder_acts fs)))
steps_so_far false fs =
    let begin = steps_begin 0 (map pass_act fs) (EndAct ∷ []) in
    (begin.0, ap (λ acts. steps_from 0 acts ++ begin.0) (append-nil (map pass_act fs)) ∙ begin.1)

-- each call of the feeder is at a moment that the clock may give
given_has : (may : ℕ → Bool) (acts : List Act) → AllByRecursion (IsGiven may) acts → (a : Act) → Has acts a → IsGiven may a
given_has may acts all a has = let i = at_has acts a has in all_at (IsGiven may) acts all i.0 a i.1

all_given : (may : ℕ → Bool) (over : Bool) (fs : List Fed) → All (λ (fed : Fed). IsTrue (may fed.now)) fs → (a : Act) → Has (acts_of over fs) a → IsGiven may a
all_given may true fs times a has = given_has may (feeder_acts fs) (given may fs times) a has
all_given may false fs times a has = given_has may (feeder_acts fs) (given may fs times) a (has_left (map pass_act fs) (EndAct ∷ []) a (subst (λ acts. Has acts a) (append-nil (map pass_act fs)) has))

-- what was called at a moment is what a script asks for, and the feeder has passed these batches, and the end or not yet
pub record IsOfScript (script : Scripted) (stream : List (List ℕ)) (most : ℕ) (may : ℕ → Bool) (over : Bool) (fs : List Fed) (m : Moment) : Type 0 where
  pub packets : m.packets ≡ sources script stream
  pub acts : m.acts ≡ acts_of over fs
  pub tiles : Tiles most 0 (length stream) fs
  pub count : length m.books ≡ clients_in script
  pub calls : (c : ℕ) (client : Caller) (log : List LogEntry) → slice_get m.others c ≡ Some client → slice_get m.books c ≡ Some log → HasCalled script c may client log

module _ (script : Scripted) (stream : List (List ℕ)) (most : ℕ) (may : ℕ → Bool) (over : Bool) (fs : List Fed) (m : Moment) (s : IsOfScript script stream most may over fs m)
    (have : HaveHistories (m.others ++ m.feeder ∷ [])) (low : (e : LogEntry) → IsLoggedIn m.books e → e.node ≤ DEMUX_NODES) (hs : List (List LogEntry)) (w : AreWoven m hs) where
  -- the caller of a log
  pub client_of : (c : ℕ) (log : List LogEntry) → slice_get m.books c ≡ Some log → (client : Caller) × HasCalled script c may client log
  client_of c log at = let client = at_place m.others c (omega (arith, slice_get_within m.books c log at, m.logs)) in (client.0, s.calls c client.0 log client.1 at)

  pub log_at : (c : ℕ) → c < clients_in script → (log : List LogEntry) × (slice_get m.books c ≡ Some log)
  log_at c lt = at_place m.books c (omega (arith, lt, s.count))

  -- what is said of each entry of the histories
  pub record IsOfRun (node : ℕ) (e : LogEntry) : Type 0 where
    pub on : e.node ≡ node
    pub by : e.who ≤ clients_in script
    pub found : e.response ≢ NoMemory
    pub logged : (c : ℕ) (log : List LogEntry) → slice_get m.books c ≡ Some log → e.who ≡ c + 1 → slice_get log e.step ≡ Some e

  fed_of_run : (node place step : ℕ) (a : Act) → IsOfRun node (feeder_entry node place step a)
  fed_of_run node place step a = record { on = refl; by = omega arith; found = λ e. cc e; logged = λ c log at zero_is. absurd (omega (arith, zero_is)) }

  logged_of_run : (node : ℕ) (e : LogEntry) → IsLoggedIn m.books e → e.node ≡ node → IsOfRun node e
  logged_of_run node e (c, log, i, at, here) on =
      let k = (client_of c log at).1 in
      let p = called m c log i e at here in
      record {
        on = on;
        by = omega (arith, slice_get_within m.books c log at, s.count, p.1);
        found = has_all (λ (e : LogEntry). e.response ≢ NoMemory) log k.found e (has_at log e i here);
        logged = λ d other at_d mine.
            let same : d ≡ c = omega (arith, p.1, mine) in
            let one : log ≡ other = one_value m.books c log other at (subst (λ n. slice_get m.books n ≡ Some other) same at_d) in
            subst (λ (z : List LogEntry). slice_get z e.step ≡ Some e) one (subst (λ n. slice_get log n ≡ Some e) (sym p.0) here);
      }

  pub entry_at : (node place : ℕ) (h : List LogEntry) (e : LogEntry) → slice_get hs node ≡ Some h → slice_get h place ≡ Some e → (e.place ≡ place) × IsOfRun node e
  entry_at node place h e at here =
      let t = (there m have low hs w node h at).2 in (
        omega (arith, in_place-at 0 h t.place place e here),
        ⊎_elim (λ l. logged_of_run node e l.1 l.0) (λ f. subst (IsOfRun node) (sym f.0) (fed_of_run node e.place e.step e.act)) (t.told place e here),
      )

  -- each call is at a moment that the clock may give
  pub moment_at : All (λ (fed : Fed). IsTrue (may fed.now)) fs → (node place : ℕ) (h : List LogEntry) (e : LogEntry) → slice_get hs node ≡ Some h → slice_get h place ≡ Some e → IsGiven may e.act
  moment_at times node place h e at here =
      ⊎_elim
      (λ l. let k = (client_of l.1.0 l.1.1 l.1.3).1 in has_all (λ (e : LogEntry). IsGiven may e.act) l.1.1 k.moments e (has_at l.1.1 e l.1.2 l.1.4))
      (λ f. by (slice_get m.feeder.passes node) f.1)
      ((there m have low hs w node h at).2.told place e here) where
        by : (o : Option (TableId × View Entry)) → Has (acts_by m o) e.act → IsGiven may e.act
        by None has = absurd has
        by (Some p) has = all_given may over fs times e.act (subst (λ acts. Has acts e.act) s.acts has)

  -- ------ the feeder

  unfoldable pub fed : IsFedSoFar most (length stream) hs
  fed = record {
    batches = map batch_of fs;
    each_size = sizes most 0 (length stream) fs s.tiles;
    within = let t = total_is most 0 (length stream) fs s.tiles in omega (arith, t);
    on_each = λ node h at. begun (slice_get m.feeder.passes node) (steps_of 0 h) (there m have low hs w node h at).2.steps;
  } where
    begun : (o : Option (TableId × View Entry)) (steps : List Step) → steps ≡ steps_from 0 (acts_by m o) → (later : List Step) × (steps ++ later ≡ feeding 0 0 (map batch_of fs))
    begun None steps is = (feeding 0 0 (map batch_of fs), ap (λ l. l ++ feeding 0 0 (map batch_of fs)) is)
    begun (Some p) steps is =
        let k = steps_so_far over fs in
        (k.0, ap (λ l. l ++ k.0) (is ∙ ap (steps_from 0) s.acts) ∙ k.1 ∙ steps_tile most 0 (length stream) 0 fs s.tiles)

  -- ------ a client

  -- between two calls of a client that follow one another none of its calls stands
  none_between : (c : ℕ) (log : List LogEntry) (i k : ℕ) (e f x : LogEntry) → slice_get m.books c ≡ Some log → slice_get log i ≡ Some e → slice_get log (suc i) ≡ Some f → slice_get log k ≡ Some x
      → f.node ≡ e.node → x.node ≡ e.node → e.place < x.place → x.place < f.place → ⊥
  none_between c log i k e f x book at next here same on above below =
      let order = (client_of c log book).1.logged.in_order in
      omega (arith, made_before log order i k e x at here (sym on) above, made_before log order k (suc i) x f here next (on ∙ sym same) below)

  pub paid : (c : ℕ) (log : List LogEntry) (i : ℕ) (e f : LogEntry) → slice_get m.books c ≡ Some log → slice_get log i ≡ Some e → slice_get log (suc i) ≡ Some f → f.node ≡ e.node
      → IsSome (waits_on c script (replies (take (suc i) log))) → IsPaidBehind Others c hs e
  paid c log i e f book at next same waits =
      let k = (client_of c log book).1 in
      let on : i + 1 ≡ suc i = omega arith in
      let gap : e.place + 1 < f.place =
      k.paid i e f at (subst (λ n. slice_get log n ≡ Some f) (sym on) next) (subst (λ n. IsSome (waits_on c script (replies (take n log)))) (sym on) waits) in
      let last = stands m have low hs w f (c, log, suc i, book, next) in
      let x = at_place last.0 (e.place + 1) (omega (arith, gap, slice_get_within last.0 f.place f last.2)) in
      let r = entry_at f.node (e.place + 1) last.0 x.0 last.1 x.1 in (
        x.0,
        (last.0, ap (λ n. slice_get hs n) r.1.on ∙ last.1, ap (λ n. slice_get last.0 n) r.0 ∙ x.1),
        r.1.on ∙ same,
        r.0,
        λ mine. none_between c log i x.0.step e f x.0 book at next (r.1.logged c log book mine) same (r.1.on ∙ same) (omega (arith, r.0)) (omega (arith, r.0, gap)),
      )

  unfoldable pub done : (c : ℕ) → c < clients_in script → HasDoneSoFar Others script c hs
  done c lt =
      let log = log_at c lt in
      let k = (client_of c log.0 log.1).1 in
      record {
        made = log.0;
        calls = record {
          steps = λ i e at. called m c log.0 i e log.1 at;
          events = k.events;
          stands = λ i e at. stands m have low hs w e (c, log.0, i, log.1, at);
          only = λ node place h e at here mine. (entry_at node place h e at here).1.logged c log.0 log.1 mine;
          in_order = k.logged.in_order;
        };
        paid = λ i e f at next same waits. paid c log.0 i e f log.1 at next same waits;
      }

  -- They are the histories of a run so far.
  unfoldable pub so_far : IsSoFar Others script most stream hs
  so_far = record {
    nodes = w.many;
    places = λ node place h e at here. let r = entry_at node place h e at here in (r.1.on, r.0, r.1.by, r.1.found);
    legal = λ node h at. let t = there m have low hs w node h at in
        subst (λ (packets : Sources). IsLegalFor (rules_at node) (filled packets h)) s.packets (subst (λ g. IsLegalFor (rules_at node) (reverse g)) (sym t.2.is) t.1.legal);
    fed = fed;
    clients = done;
  }
