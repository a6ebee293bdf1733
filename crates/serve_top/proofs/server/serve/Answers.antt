-- From what the journals of a server have kept in memory to what its report tells.
use Rattle.serve_top.proofs.Imports.{rules, ◌≡◌, refl, ap, arith, length, length-map, ◌≤◌, ℕ, Bool, true, sym, ◌∙◌, subst, List, [], ◌∷◌, ◌++◌, map, reverse, Option, Some, None, Vec, Global, slice_get, option_map, All, All-nil, All-cons, All-head, All-tail, All-append, map-append, map-map, reverse-append, same_lists, slice_get-map, slice_get_within, get_or_from_slice_get, Appends, SourceEnd, SinkEnd, cut, Of188, told_head, DEMUX_NODES, told_entry, ToldEntry, AreEntriesOnNodes, LogEntry, Fed, Outcome, Input, Sources, Scripted, plain, ClientCommand, plays_of, commands_of, report_of, IsWholeRun, Caller, at_place, one_value, BringFrom, HaveCalled, TellWhatWasCalled, AreWorked, mapped, IsPlayed, commands_by, spelled, AreOnNodes, HasAnsweredAll, answers_played, answers_idle, PassesNone, JournalLine, Rung, KeptJournal, HasKept, HasNothing, AreKeptLines, Handed, AreServed, every, fed_by, IsServed, HasReported}
use Rattle.serve_top.proofs.server.serve.Goals as goal
use Rattle.serve_top.proofs.Logged.{brings_none}
use Rattle.serve_top.proofs.Playing.{every_member, is_run}
use Rattle.serve_top.proofs.Scripting.{AreCalls, spelled_calls, lines_of, lines_at}

-- ------ lists

-- what holds of each member
at_all : {A : Type 0} (P : A → Type 0) (xs : List A) → All P xs → (i : ℕ) (x : A) → slice_get xs i ≡ Some x → P x
at_all P xs all i x at = subst P (get_or_from_slice_get xs i x x at) (all i x (slice_get_within xs i x at))

all_reversed : {A : Type 0} (P : A → Type 0) (xs : List A) → All P xs → All P (reverse xs)
all_reversed P [] all = All-nil P
all_reversed P (x ∷ xs) all =
    subst (All P) (sym (reverse-append (x ∷ []) xs)) (All-append P (reverse xs) (x ∷ []) (all_reversed P xs (All-tail P x xs all)) (All-cons P x [] (All-head P x xs all) (All-nil P)))

map_reversed : {A B : Type 0} (f : A → B) (xs : List A) → map f (reverse xs) ≡ reverse (map f xs)
map_reversed f [] = refl
map_reversed f (x ∷ xs) =
    ap (map f) (reverse-append (x ∷ []) xs)
    ∙ (map-append f (reverse xs) (x ∷ [])
    ∙ (ap (λ l. l ++ f x ∷ []) (map_reversed f xs) ∙ sym (reverse-append (f x ∷ []) (map f xs))))

-- what holds of what is made of each member
unmapped : {A B : Type 0} (f : A → B) (P : B → Type 0) (xs : List A) → All P (map f xs) → All (λ (x : A). P (f x)) xs
unmapped f P [] h = All-nil (λ x. P (f x))
unmapped f P (x ∷ xs) h = All-cons (λ z. P (f z)) x xs (All-head P (f x) (map f xs) h) (unmapped f P xs (All-tail P (f x) (map f xs) h))

-- ------ what is kept

module _ {T E : Type 0} (source : T → SourceEnd) (sink : T → SinkEnd) (may : ℕ → Bool) (behind : SourceEnd → ℕ → Bool) (lines : List T) (kept : List (JournalLine T (Rung E KeptJournal))) (are : AreKeptLines lines kept) (x y : SourceEnd) (was now : Rung E (Vec Fed Global)) (empty : was.kept.items ≡ [])
    (feeder : Caller) (clients : List Caller) (end : Handed (Rung E KeptJournal))
    (s : AreServed source sink (λ calls told (a b : Rung E KeptJournal). HasKept calls told a.kept b.kept) (λ feeding (a b : Rung E (Vec Fed Global)). b.kept.items ≡ a.kept.items ++ feeding) kept may behind x y was now feeder clients end)
    (whole : All (λ (k : Rung E KeptJournal). k.kept.whole ≡ true) end.journals.items) where
  abbrev journals : List (Rung E KeptJournal)
  journals = end.journals.items

  abbrev told : List (List Outcome)
  told = map (λ (k : Rung E KeptJournal). k.kept.outcomes.items) journals

  feeding_is : now.kept.items ≡ s.feeding
  feeding_is = s.batches ∙ ap (λ (l : List Fed). l ++ s.feeding) empty

  as_many : length journals ≡ length s.books
  as_many = s.kept ∙ (sym s.each ∙ sym s.called.logs)

  -- the calls of a journal are those of its client, and what became of its commands is what they say
  record IsAt (c : ℕ) (book : List LogEntry) (commands : List ClientCommand) : Type 0 where
    line : T
    there : slice_get (reverse lines) c ≡ Some line
    client : Caller
    own : slice_get clients c ≡ Some client
    journal : Rung E KeptJournal
    keeps : slice_get journals c ≡ Some journal
    log : map told_entry journal.kept.log.items ≡ book
    last : T
    first : Caller
    answers : HasAnsweredAll source sink may behind line last first client [] book [] journal.kept.outcomes.items
    nodes : AreOnNodes book
    spells : commands ≡ commands_by 0 (spelled (answers.turns ++ answers.last) answers.leaving)

  is_at : (c : ℕ) (book : List LogEntry) → slice_get s.books c ≡ Some book → (commands : List ClientCommand) × AreCalls commands × IsAt c book commands
  is_at c book at =
      let q = s.asked c book at in let h = q.6 in
      let nothing = at_all (λ (l : JournalLine T (Rung E KeptJournal)). HasNothing l.journal.kept) (reverse kept) (all_reversed (λ (l : JournalLine T (Rung E KeptJournal)). HasNothing l.journal.kept) kept are.each) c q.0 q.1 in
      let given = h.given (at_all (λ (k : Rung E KeptJournal). k.kept.whole ≡ true) journals whole c q.4 q.5) in
      let became : q.4.kept.outcomes.items ≡ h.became = given.2 ∙ ap (λ (l : List Outcome). l ++ h.became) nothing.1 in
      let a : HasAnsweredAll source sink may behind q.0.line h.end h.first q.2 [] book [] q.4.kept.outcomes.items = subst (λ (os : List Outcome). HasAnsweredAll source sink may behind q.0.line h.end h.first q.2 [] book [] os) (sym became) h.answers in (
        commands_by 0 (spelled (a.turns ++ a.last) a.leaving),
        spelled_calls 0 (spelled (a.turns ++ a.last) a.leaving),
        record {
          line = q.0.line;
          there = ap (λ (l : List T). slice_get l c) (ap reverse (sym are.are) ∙ sym (map_reversed (λ (l : JournalLine T (Rung E KeptJournal)). l.line) kept))
              ∙ (slice_get-map (λ (l : JournalLine T (Rung E KeptJournal)). l.line) (reverse kept) c ∙ ap (option_map (λ (l : JournalLine T (Rung E KeptJournal)). l.line)) q.1);
          client = q.2;
          own = q.3;
          journal = q.4;
          keeps = q.5;
          log = given.1 ∙ ap (λ (l : List ToldEntry). map told_entry l ++ book) nothing.0;
          last = h.end;
          first = h.first;
          answers = a;
          nodes = h.nodes;
          spells = refl;
        },
      )

  -- the commands of the client in this place, if there is one
  choose : (c : ℕ) (o : Option (List LogEntry)) → slice_get s.books c ≡ o → (commands : List ClientCommand) × AreCalls commands × ((book : List LogEntry) → o ≡ Some book → IsAt c book commands)
  choose c None at = ([], tt, λ book some. absurd (cc some))
  choose c (Some own) at = let a = is_at c own at in (a.0, a.1, λ book same. let one : own ≡ book = cc same in subst (λ (b : List LogEntry). IsAt c b a.0) one a.2)

  commands_at : (c : ℕ) → List ClientCommand
  commands_at c = (choose c (slice_get s.books c) refl).0

  calls_at : (c : ℕ) → AreCalls (commands_at c)
  unfolding commands_at
  calls_at c = (choose c (slice_get s.books c) refl).1

  client_is : (c : ℕ) (book : List LogEntry) → slice_get s.books c ≡ Some book → IsAt c book (commands_at c)
  unfolding commands_at
  client_is c book at = (choose c (slice_get s.books c) refl).2 book at

  told_at : (c : ℕ) (book : List LogEntry) (commands : List ClientCommand) (a : IsAt c book commands) → slice_get told c ≡ Some a.journal.kept.outcomes.items
  told_at c book commands a = slice_get-map (λ (k : Rung E KeptJournal). k.kept.outcomes.items) journals c ∙ ap (option_map (λ (k : Rung E KeptJournal). k.kept.outcomes.items)) a.keeps

  -- they are the logs
  books_are : map (λ (k : Rung E KeptJournal). map told_entry k.kept.log.items) journals ≡ s.books
  books_are = same_lists (map (λ (k : Rung E KeptJournal). map told_entry k.kept.log.items) journals) s.books (length-map journals (λ (k : Rung E KeptJournal). map told_entry k.kept.log.items) ∙ as_many)
      (λ c d low.
      let long = length-map journals (λ (k : Rung E KeptJournal). map told_entry k.kept.log.items) in let many = as_many in
      let b = at_place s.books c (omega (arith, low, long, many)) in let a = client_is c b.0 b.1 in
      let here : slice_get (map (λ (k : Rung E KeptJournal). map told_entry k.kept.log.items) journals) c ≡ Some b.0 =
      slice_get-map (λ (k : Rung E KeptJournal). map told_entry k.kept.log.items) journals c ∙ (ap (option_map (λ (k : Rung E KeptJournal). map told_entry k.kept.log.items)) a.keeps ∙ ap (λ (l : List LogEntry). Some l) a.log) in
      get_or_from_slice_get (map (λ (k : Rung E KeptJournal). map told_entry k.kept.log.items) journals) c b.0 d here ∙ sym (get_or_from_slice_get s.books c b.0 d b.1))

  -- no packets pass by them
  bare : (c : ℕ) (client : Caller) (log : List LogEntry) → slice_get clients c ≡ Some client → slice_get s.books c ≡ Some log → (given : Input → List (List ℕ)) → BringFrom given client log
  bare c client log at book given i e there =
      let t = (s.called.each c client log at book).logged.tells i e there in let h = (s.asked c log book).6 in
      (t.0, t.1, (t.2.0, t.2.1, brings_none given t.2.0.invocation (subst PassesNone t.2.2.act (at_all (λ (x : LogEntry). PassesNone x.act) log h.none i e there))))

  -- ------ the logs that are merged

  module _ (logs : List (Vec ToldEntry Global)) (same : map (λ (log : Vec ToldEntry Global). log.items) logs ≡ map (λ (k : Rung E KeptJournal). k.kept.log.items) journals) where
    logs_are : map (λ (log : Vec ToldEntry Global). map told_entry log.items) logs ≡ s.books
    logs_are =
        sym (map-map (λ (es : List ToldEntry). map told_entry es) (λ (log : Vec ToldEntry Global). log.items) logs)
        ∙ (ap (map (λ (es : List ToldEntry). map told_entry es)) same
        ∙ (map-map (λ (es : List ToldEntry). map told_entry es) (λ (k : Rung E KeptJournal). k.kept.log.items) journals ∙ books_are))

    -- each call is on a node
    pub logs_on_nodes : All (λ (log : Vec ToldEntry Global). AreEntriesOnNodes log.items) logs
    logs_on_nodes = unmapped (λ (log : Vec ToldEntry Global). log.items) AreEntriesOnNodes logs (subst (All AreEntriesOnNodes) (sym same) (every_member AreEntriesOnNodes (map (λ (k : Rung E KeptJournal). k.kept.log.items) journals) each)) where
      each : (c : ℕ) (es : List ToldEntry) → slice_get (map (λ (k : Rung E KeptJournal). k.kept.log.items) journals) c ≡ Some es → AreEntriesOnNodes es
      each c es at =
          let v = mapped (λ (k : Rung E KeptJournal). k.kept.log.items) journals c es at in
          let low = slice_get_within journals c v.0 v.1 in let many = as_many in
          let b = at_place s.books c (omega (arith, low, many)) in let a = client_is c b.0 b.1 in
          let log : map told_entry es ≡ b.0 = ap (map told_entry) (sym v.2 ∙ ap (λ (k : Rung E KeptJournal). k.kept.log.items) (one_value journals c v.0 a.journal v.1 a.keeps)) ∙ a.log in
          unmapped told_entry (λ (e : LogEntry). e.node ≤ DEMUX_NODES) es (subst AreOnNodes (sym log) a.nodes)

  -- ------ the report

  script : Scripted
  script = plain (lines_of commands_at (length s.books))

  asked : (c : ℕ) (book : List LogEntry) → slice_get s.books c ≡ Some book
      → (line : T) × (slice_get (reverse lines) c ≡ Some line) × (client : Caller) × (slice_get clients c ≡ Some client)
      × (became : List Outcome) × (slice_get told c ≡ Some became) × IsServed source sink may behind script c client line book became
  unfolding script
  asked c book at =
      let a = client_is c book at in (
        a.line,
        a.there,
        a.client,
        a.own,
        a.journal.kept.outcomes.items,
        told_at c book (commands_at c) a,
        record { end = a.last; first = a.first; answers = a.answers; spells = lines_at commands_at calls_at (plays_of c script) (length s.books) c (slice_get_within s.books c book at) ∙ a.spells },
      )

  played : (c : ℕ) (book : List LogEntry) (out : List Outcome) → slice_get s.books c ≡ Some book → slice_get told c ≡ Some out → (script : Scripted) → commands_of c script ≡ commands_at c → IsPlayed may c script book out
  played c book out at there script same =
      let a = client_is c book at in
      subst (IsPlayed may c script book) (one_value told c a.journal.kept.outcomes.items out (told_at c book (commands_at c) a) there)
      (answers_played source sink may behind a.line a.last a.first a.client book a.journal.kept.outcomes.items a.answers c script (same ∙ a.spells))

  idle : (c : ℕ) (book : List LogEntry) (out : List Outcome) → slice_get s.books c ≡ Some book → slice_get told c ≡ Some out → commands_at c ≡ [] → (book ≡ []) × (out ≡ [])
  idle c book out at there none =
      let a = client_is c book at in
      let i = answers_idle source sink may behind a.line a.last a.first a.client book a.journal.kept.outcomes.items a.answers (sym a.spells ∙ none) in
      (i.0, sym (one_value told c a.journal.kept.outcomes.items out (told_at c book (commands_at c) a) there) ∙ i.1)

  -- what is merged tells this, and it is a run of the script
  module _ (hs : List (List LogEntry)) (tells : TellWhatWasCalled every (fed_by (cut Of188 s.taken).packets) feeder s.feeding clients s.books hs)
      (runs : (script : Scripted) (outs : List (List Outcome)) → AreWorked script every 64 may (cut Of188 s.taken).packets feeder s.feeding clients s.books outs → IsWholeRun script 64 may (cut Of188 s.taken).packets outs hs) where
    has_reported : (before after : Option (List ℕ)) → Appends before after (report_of (told_head end.head) told hs) → HasReported source sink lines may behind x y before after
    unfolding script
    has_reported before after written = record {
      taken = s.taken;
      consumes = s.consumes;
      failed = s.failed;
      reads = s.reads;
      feeder = feeder;
      feeding = s.feeding;
      fed = s.fed;
      clock = s.clock;
      clients = clients;
      each = s.each ∙ (sym (length-map kept (λ (l : JournalLine T (Rung E KeptJournal)). l.line)) ∙ ap length are.are);
      books = s.books;
      called = s.called;
      script = script;
      writes = refl;
      told = told;
      as_many = length-map journals (λ (k : Rung E KeptJournal). k.kept.outcomes.items) ∙ (s.kept ∙ (sym (length-map kept (λ (l : JournalLine T (Rung E KeptJournal)). l.line)) ∙ ap length are.are));
      asked = asked;
      left = s.left;
      histories = hs;
      tells = tells;
      run = λ found. is_run may (cut Of188 s.taken).packets feeder s.feeding clients s.books hs told s.fed s.called bare (length-map journals (λ (k : Rung E KeptJournal). k.kept.outcomes.items) ∙ as_many) found runs commands_at calls_at played idle;
      written = subst (λ h. Appends before after (report_of h told hs)) s.head written;
    }

  -- of the logs and the outcomes that a report is made of
  module _ (logs : List (Vec ToldEntry Global)) (same : map (λ (log : Vec ToldEntry Global). log.items) logs ≡ map (λ (k : Rung E KeptJournal). k.kept.log.items) journals) (outs : List (Vec Outcome Global)) (became : map (λ (o : Vec Outcome Global). o.items) outs ≡ told)
      (hs : List (List LogEntry))
      (tells : (among : ℕ → Bool) (packets : Sources) → HaveCalled among packets feeder now.kept.items clients (map (λ (log : Vec ToldEntry Global). map told_entry log.items) logs)
      → TellWhatWasCalled among packets feeder now.kept.items clients (map (λ (log : Vec ToldEntry Global). map told_entry log.items) logs) hs)
      (runs : (script : Scripted) (among : ℕ → Bool) (most : ℕ) (may : ℕ → Bool) (stream : List (List ℕ)) (outs : List (List Outcome))
      → AreWorked script among most may stream feeder now.kept.items clients (map (λ (log : Vec ToldEntry Global). map told_entry log.items) logs) outs → IsWholeRun script most may stream outs hs) where
    abbrev packets : Sources
    packets = fed_by (cut Of188 s.taken).packets

    tells_books : TellWhatWasCalled every packets feeder s.feeding clients s.books hs
    tells_books = subst (λ (fs : List Fed). HaveCalled every packets feeder fs clients s.books → TellWhatWasCalled every packets feeder fs clients s.books hs) feeding_is
        (subst (λ (bs : List (List LogEntry)). HaveCalled every packets feeder now.kept.items clients bs → TellWhatWasCalled every packets feeder now.kept.items clients bs hs) (logs_are logs same) (tells every packets))
        s.called

    runs_books : (script : Scripted) (outs : List (List Outcome)) → AreWorked script every 64 may (cut Of188 s.taken).packets feeder s.feeding clients s.books outs → IsWholeRun script 64 may (cut Of188 s.taken).packets outs hs
    runs_books script outs = subst (λ (fs : List Fed). AreWorked script every 64 may (cut Of188 s.taken).packets feeder fs clients s.books outs → IsWholeRun script 64 may (cut Of188 s.taken).packets outs hs) feeding_is
        (subst (λ (bs : List (List LogEntry)). AreWorked script every 64 may (cut Of188 s.taken).packets feeder now.kept.items clients bs outs → IsWholeRun script 64 may (cut Of188 s.taken).packets outs hs) (logs_are logs same)
        (runs script every 64 may (cut Of188 s.taken).packets outs))

    pub is_reported : (before after : Option (List ℕ)) (those : List (Vec Outcome Global)) → those ≡ outs → Appends before after (report_of (told_head end.head) (map (λ (o : Vec Outcome Global). o.items) those) hs) → HasReported source sink lines may behind x y before after
    is_reported before after those are written = has_reported hs tells_books runs_books before after
        (subst (λ (os : List (List Outcome)). Appends before after (report_of (told_head end.head) os hs)) (ap (map (λ (o : Vec Outcome Global). o.items)) are ∙ became) written)

pub served-requires-clause-few : goal.served-requires-clause-few
served-requires-clause-few g c =
    let few = c.requires.few in let kept = c.in_ok-lines.ensures in
    let long = length-map c.in_ok-lines.lines.items (λ l. l.line) in let same = ap length kept.are in omega (arith, few, long, same)

pub histories_of_run-requires-clause-all : goal.histories_of_run-requires-clause-all
histories_of_run-requires-clause-all g c = c.in_ok-adapter.ensures.all

pub histories_of_run-requires-clause-nodes : goal.histories_of_run-requires-clause-nodes
histories_of_run-requires-clause-nodes g c =
    let a = c.in_ok-adapter in let k = c.in_ok-logs in
    logs_on_nodes g.T.Source.end g.T.Sink.end (g.C.Clock.may_give c.args.clock.now) (g.C.Clock.may_give_behind c.args.clock.now) c.args.lines.items c.in_ok-lines.lines.items c.in_ok-lines.ensures _ _ _ _ c.new.ensures.items a.field-0.feeder a.field-0.clients.items a.field-0.handed a.ensures.served k.ensures.whole k.logs.items k.ensures.logs

pub returns-in-Ok-clause-reported : goal.returns-in-Ok-clause-reported
returns-in-Ok-clause-reported g c =
    let a = c.in_ok-adapter in let k = c.in_ok-logs in let h = c.in_ok-histories.ensures in
    let same : c.deref.result.now ≡ k.outcomes.items = search rules in
    is_reported g.T.Source.end g.T.Sink.end (g.C.Clock.may_give c.args.clock.now) (g.C.Clock.may_give_behind c.args.clock.now) c.args.lines.items c.in_ok-lines.lines.items c.in_ok-lines.ensures _ _ _ _ c.new.ensures.items a.field-0.feeder a.field-0.clients.items a.field-0.handed a.ensures.served k.ensures.whole
    k.logs.items k.ensures.logs k.outcomes.items k.ensures.outcomes c.in_ok-histories.histories h.tells h.run _ _ c.deref.result.now same c.in-Ok.ensures.whole
