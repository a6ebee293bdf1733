-- What was called for the requests of the lines is a run of the script of their commands.
use Rattle.serve_top.proofs.Imports.{◌≡◌, ◌≢◌, ℕ, zero, suc, ◌+◌, ◌<◌, ◌≤◌, Bool, true, false, nat_lt, set, List, [], ◌∷◌, length, take, Option, Some, None, refl, ap, sym, ◌∙◌, subst, arith, slice_get, get_or, IsSome, nat_tests, append-nil, length-set, slice_get_within, slice_get-get_or, dite, ℕ_discrete, at_place, one_value, set_there, set_elsewhere, Caller, Fed, Outcome, Input, IsAccounted, History, IsLegalFor, LogEntry, Sources, filled, rules_at, Response, NoMemory, Scripted, plain, clients_in, ClientCommand, Event, commands_of, plays_of, next_event, outcomes, IsRun, IsEvent, HasDone, replies, sources, IsGiven, IsWholeRun, HasFedAll, HasWorked, AreWorked, BringFrom, HasLogged, HaveCalled, IsPlayed, every, fed_by, FindMemory, IsRunOf, Frontend, FromDvr, Line}
use Rattle.dmx_calls.proofs.Filled.{same_filled}
use Rattle.std.proofs.Common.{All}
use Rattle.serve_top.proofs.Scripting.{AreCalls, lines_of, lines_at, clients_low, behind_none, question, asked_last, asked_others, asked_own, asked_clients, next_same, outcomes_same, none_next, question_next, Parted, parted_at}

-- ------ The histories of a script that writes nothing are filled with the same packets, whatever its lines are

pub same_sources : (xs ys : List Line) (stream : List (List ℕ)) (who : ℕ) (input : Input) → sources (plain xs) stream who input ≡ sources (plain ys) stream who input
same_sources xs ys stream who Frontend = refl
same_sources xs ys stream zero FromDvr = refl
same_sources xs ys stream (suc client) FromDvr = refl

-- a fact of each member
pub every_member : {A : Type 0} (P : A → Type 0) (xs : List A) → ((i : ℕ) (x : A) → slice_get xs i ≡ Some x → P x) → All P xs
every_member P xs each i d low = each i (get_or xs i d) (slice_get-get_or xs i d low)

-- what a client has logged, where it is what its commands in this script ask for, and brings no packets
pub has_worked : (may : ℕ → Bool) (packets : Sources) (client : ℕ) (script : Scripted) (c : Caller) (log : List LogEntry) (told : List Outcome) → HasLogged packets client c log
    → ((given : Input → List (List ℕ)) → BringFrom given c log) → IsPlayed may client script log told
    → ((i : ℕ) (e : LogEntry) → slice_get log i ≡ Some e → e.response ≢ NoMemory) → HasWorked script client may c log told
has_worked may packets client script c log told l bare p found = record {
  called = record {
    who = l.who;
    logged = l.logged;
    events = p.events;
    brought = λ stream. bare (sources script stream (suc client));
    found = every_member (λ (e : LogEntry). e.response ≢ NoMemory) log found;
    moments = every_member (λ (e : LogEntry). IsGiven may e.act) log p.moments;
    paid = λ i e f at next waits. absurd (let some : IsSome {T = ℕ} None = subst (λ (o : Option ℕ). IsSome o) (p.once i f next) waits in cc some);
  };
  ends = p.ends;
  outcomes = p.outcomes;
}

module _ (may : ℕ → Bool) (stream : List (List ℕ)) (feeder : Caller) (feeding : List Fed) (clients : List Caller) (books : List (List LogEntry)) (hs : List (List LogEntry)) (told : List (List Outcome))
    (fed : HasFedAll every 64 may stream feeder feeding) (called : HaveCalled every (fed_by stream) feeder feeding clients books)
    (bare : (c : ℕ) (client : Caller) (log : List LogEntry) → slice_get clients c ≡ Some client → slice_get books c ≡ Some log → (given : Input → List (List ℕ)) → BringFrom given client log)
    (long : length told ≡ length books) (found : FindMemory books)
    (runs : (script : Scripted) (outs : List (List Outcome)) → AreWorked script every 64 may stream feeder feeding clients books outs → IsWholeRun script 64 may stream outs hs) where
  -- each client has done what its commands in this script ask for
  worked : (script : Scripted) (outs : List (List Outcome)) → clients_in script ≡ length books → length outs ≡ length books
      → ((c : ℕ) (book : List LogEntry) (out : List Outcome) → slice_get books c ≡ Some book → slice_get outs c ≡ Some out → IsPlayed may c script book out) → AreWorked script every 64 may stream feeder feeding clients books outs
  worked script outs many size played = record {
    fed = fed;
    named = λ node is. refl;
    clients = sym called.logs ∙ sym many;
    logs = sym many;
    outcomes = size ∙ sym many;
    each = λ c client log became at book out. has_worked may (fed_by stream) c script client log became (called.each c client log at book) (bare c client log at book) (played c log became book out) (λ i e there. found e (c, log, i, book, there));
  }

  -- f has the commands of each client, which are what it has done
  module _ (f : ℕ → List ClientCommand) (are : (c : ℕ) → AreCalls (f c)) (played : (c : ℕ) (book : List LogEntry) (out : List Outcome) → slice_get books c ≡ Some book → slice_get told c ≡ Some out
      → (script : Scripted) → commands_of c script ≡ f c → IsPlayed may c script book out)
      (idle : (c : ℕ) (book : List LogEntry) (out : List Outcome) → slice_get books c ≡ Some book → slice_get told c ≡ Some out → f c ≡ [] → (book ≡ []) × (out ≡ [])) where
    abbrev n : ℕ
    n = length books

    abbrev pub script : Scripted
    script = plain (lines_of f n)

    abbrev m : ℕ
    m = clients_in script

    here : (c : ℕ) (book : List LogEntry) → slice_get books c ≡ Some book → commands_of c script ≡ f c
    here c book at = lines_at f are (plays_of c script) n c (slice_get_within books c book at)

    -- each client has a command
    all_run : m ≡ n → IsRunOf script may stream told hs
    all_run many = record {
      ran = told;
      idle = 0;
      all = sym (append-nil told);
      run = runs script told (worked script told many long (λ c book out at is. played c book out at is script (here c book at)));
    }

    -- the last one has none: it asks what is no call
    module _ (last : ℕ) (is : n ≡ last + 1) (low : m ≤ last) where
      abbrev more : Scripted
      more = asked_last last (lines_of f n)

      abbrev outs : List (List Outcome)
      outs = set told last (outcomes last more [])

      many : clients_in more ≡ n
      many = asked_clients last (lines_of f n) low ∙ sym is

      own : commands_of last more ≡ question ∷ []
      own = asked_own last (lines_of f n) (lines_at f are (plays_of last script) n last (omega (arith, is)) ∙ behind_none f n last (omega (arith, is)) low)

      others : (c : ℕ) → last ≢ c → commands_of c more ≡ commands_of c script
      others c not = asked_others last c (lines_of f n) not

      idle_at : (c : ℕ) (book : List LogEntry) (out : List Outcome) → m ≤ c → slice_get books c ≡ Some book → slice_get told c ≡ Some out → (book ≡ []) × (out ≡ [])
      idle_at c book out less at there = idle c book out at there (behind_none f n c (slice_get_within books c book at) less)

      asks : IsPlayed may last more [] (outcomes last more [])
      asks = record {
        events = λ i e at. absurd (cc at);
        ends = question_next last more own [];
        outcomes = refl;
        moments = λ i e at. absurd (cc at);
        once = λ i e at. absurd (let low = slice_get_within [] (i + 1) e at in omega (arith, low));
      }

      plays : (c : ℕ) (book : List LogEntry) (out : List Outcome) → slice_get books c ≡ Some book → slice_get outs c ≡ Some out → IsPlayed may c more book out
      plays c book out at there = dite (ℕ_discrete last c)
          (λ same.
          let book_at : slice_get books last ≡ Some book = subst (λ k. slice_get books k ≡ Some book) (sym same) at in
          let was = at_place told last (omega (arith, is, long)) in
          let none = idle_at last book was.0 low book_at was.1 in
          let mine : outcomes last more [] ≡ out = one_value outs last (outcomes last more []) out (set_there told last (outcomes last more []) (omega (arith, is, long))) (subst (λ k. slice_get outs k ≡ Some out) (sym same) there) in
          subst (λ k. IsPlayed may k more book out) same (subst (λ (l : List LogEntry). IsPlayed may last more l out) (sym none.0) (subst (IsPlayed may last more []) mine asks)))
          (λ not.
          played c book out at (sym (set_elsewhere told last c (outcomes last more []) (λ e. not (sym e))) ∙ there) more (others c not ∙ here c book at))

      r : IsWholeRun more 64 may stream outs hs
      r = runs more outs (worked more outs many (length-set told last (outcomes last more []) ∙ long) plays)

      -- a client behind the script's has called nothing
      no_call : (w : ℕ) (e : LogEntry) (node place : ℕ) (h : List LogEntry) → e.who ≡ w → m < w → slice_get hs node ≡ Some h → slice_get h place ≡ Some e → ⊥
      no_call zero e node place h who less at there = absurd (omega (arith, less))
      no_call (suc c) e node place h who less at there =
          let top = (r.run.places node place h e at there).2 in
          let d = r.run.clients_done c (omega (arith, who, top)) in
          let stands = d.calls.only node place h e at there (omega (arith, who)) in
          subst (λ (o : Option Event). IsEvent (plays_of c more) o e) (nothing c (omega (arith, less)) (omega (arith, who, top, many)) (replies (take e.step d.made))) (d.calls.events e.step e stands) where
            nothing : (c : ℕ) → m ≤ c → c < n → (rs : List Response) → next_event c more rs ≡ None
            nothing c less low rs = dite (ℕ_discrete last c)
                (λ same. subst (λ k. next_event k more rs ≡ None) same (question_next last more own rs))
                (λ not. none_next c more (others c not ∙ (lines_at f are (plays_of c script) n c low ∙ behind_none f n c low less)) rs)

      who_low : (e : LogEntry) (node place : ℕ) (h : List LogEntry) → slice_get hs node ≡ Some h → slice_get h place ≡ Some e → (b : Bool) → nat_lt m e.who ≡ b → e.who ≤ m
      who_low e node place h at there true less = absurd (no_call e.who e node place h refl (grind (arith, nat_tests, less)) at there)
      who_low e node place h at there false less = grind (arith, nat_tests, less)

      same : (c : ℕ) → c < m → commands_of c more ≡ commands_of c script
      same c less = others c (λ e. absurd (omega (arith, e, less, low)))

      abbrev done_at : (c : ℕ) → c < m → HasDone script c hs
      done_at c less =
          let d = r.run.clients_done c (omega (arith, less, low, many, is)) in
          record {
            made = d.made;
            calls = record {
              steps = d.calls.steps;
              events = λ i e at. subst (λ (o : Option Event). IsEvent (plays_of c script) o e) (next_same c more script (same c less) (replies (take i d.made))) (d.calls.events i e at);
              stands = d.calls.stands;
              only = d.calls.only;
              in_order = d.calls.in_order;
            };
            ends = sym (next_same c more script (same c less) (replies d.made)) ∙ d.ends;
          }

      -- it is filled with the same packets, since neither script writes
      filled_same : (h : List LogEntry) → filled (sources more stream) h ≡ filled (sources script stream) h
      filled_same h = same_filled (sources more stream) (sources script stream) (same_sources more.lines script.lines stream) h

      abbrev run_is : IsRun script 64 stream hs
      run_is = record {
        nodes = r.run.nodes;
        places = λ node place h e at there. let q = r.run.places node place h e at there in (q.0, q.1, who_low e node place h at there (nat_lt m e.who) refl, q.3);
        legal = λ node h at. subst (λ (g : History). IsLegalFor (rules_at node) g) (filled_same h) (r.run.legal node h at);
        fed = r.run.fed;
        clients_done = done_at;
      }

      -- the outcomes of the clients that have a command
      parted : Parted m told
      parted = parted_at m told (omega (arith, low, is, long)) (λ k o less at.
          let book = at_place books k (omega (arith, slice_get_within told k o at, long)) in (idle_at k book.0 o less book.1 at).1)

      some_run : IsRunOf script may stream told hs
      some_run = record {
        ran = parted.ran;
        idle = parted.idle;
        all = parted.all;
        run = record {
          run = run_is;
          accounted = λ node h at. subst (λ (g : History). IsAccounted (rules_at node) g) (filled_same h) (r.accounted node h at);
          full = r.full;
          moments = r.moments;
          clients = parted.long;
          outcomes = λ c less.
              let mine = r.outcomes c (omega (arith, less, low, many, is)) in
              parted.same c less ∙ (sym (set_elsewhere told last c (outcomes last more []) (λ e. absurd (omega (arith, e, less, low)))) ∙ (mine ∙ ap (λ (o : List Outcome). Some o) (outcomes_same c more script (same c less) _)));
        };
      }

    pub is_run : IsRunOf script may stream told hs
    is_run = dite (ℕ_discrete m n) all_run (λ not. let k = before n (let low = clients_low f n in omega (arith, low, not)) in some_run k.0 k.1 k.2) where
      before : (k : ℕ) → m < k → (last : ℕ) × (k ≡ last + 1) × (m ≤ last)
      before zero less = absurd (omega (arith, less))
      before (suc k) less = (k, omega arith, omega (arith, less))
