-- Seats that have handed their calls over, and a feeder that has told its batches: what they have called.
use Rattle.serve_top.proofs.Imports.{◌≡◌, ◌∙◌, Result, Err, Some, ap, sym, arith, refl, subst, plain, begun_feeder, begun_passed, [], Caller, IsSameCaller, Failed, TooLong, no_stop, ⊎_elim, ℕ, zero, suc, Bool, true, ◌+◌, ◌<◌, ◌≤◌, ◌^◌, List, ◌∷◌, ◌++◌, length, map, false, get_or-replicate, replicate, reverse, Option, None, length-append, slice_get, slice_index_or, option_map, All, length-map, length-reverse, slice_get-map, slice_get-get_or, get_or_from_slice_get, slice_get_within, TableId, SourceEnd, SinkEnd, cut, PacketSize, Of188, head_of, Pulls, has_failed, Fed, DEMUX_NODES, Outcome, LogEntry, Sources, AreFreshCallers, AreAllCallers, is_in, still_all, at_place, at_end, one_value, FeederWorker, HasPassedAll, HasFedToEnd, All-weaker, IsReadBehind, IsTimed, Pulls-front, as_named, worked_feeder, HasFedAll, HasLogged, HaveCalled, called_none, mapped, JournalLine, Desk, Seat, MakesCalls, IsReadyToHand, HasServed, HaveServed, HasLeft, AreReady, AreOnNodes, HasAnsweredAll, ReportParts, AreServed, IsLeftBy, IsNewFeeder, every, fed_by}
use Rattle.serve_top.proofs.Streaming.{too_often, read_to}
use Rattle.serve_top.proofs.journals.served.Goals as goal
use Rattle.serve_top.proofs.Logged.{same_calls, logged_calls, brings_calls, passes_none}

-- a row that has all nodes
all_in : (node : ℕ) → node ≤ DEMUX_NODES → is_in (replicate (DEMUX_NODES + 1) true) node ≡ every node
all_in node low = get_or-replicate (DEMUX_NODES + 1) node true false (omega arith)

-- as many clients as lines
pub counted : (locks : List TableId) (n : ℕ) (feeder : Caller) (clients : List Caller) → AreFreshCallers locks n feeder clients → AreFreshCallers locks (length clients) feeder clients
counted locks n feeder clients fresh = subst (λ (k : ℕ). AreFreshCallers locks k feeder clients) (sym fresh.long) fresh

-- ------ lists

-- a list by its places
table : {A : Type 0} → (ℕ → A) → (from count : ℕ) → List A
table f from zero = []
table f from (suc n) = f from ∷ table f (from + 1) n

table_long : {A : Type 0} (f : ℕ → A) (from n : ℕ) → length (table f from n) ≡ n
unfolding table
table_long f from zero = refl
table_long f from (suc n) = let more = table_long f (from + 1) n in omega (arith, more)

table_at : {A : Type 0} (f : ℕ → A) (from n k : ℕ) (a : A) → slice_get (table f from n) k ≡ Some a → (k < n) × (f (from + k) ≡ a)
unfolding table
table_at f from zero k a at = absurd (cc at)
table_at f from (suc n) zero a at = let here : from + 0 ≡ from = omega arith in let same : f from ≡ a = cc at in (omega arith, ap f here ∙ same)
table_at f from (suc n) (suc k) a at =
    let more = table_at f (from + 1) n k a at in let low = more.0 in
    let there : from + suc k ≡ (from + 1) + k = omega arith in (omega (arith, low), ap f there ∙ more.1)

-- ------ the seats

-- they are ready
pub desks_ready : {T J : Type 0} (locks : List TableId) (clients : List Caller) (desks : List (Desk (JournalLine T J))) → AreReady locks clients (map (λ (d : Desk (JournalLine T J)). d.seat) desks)
    → All (λ (d : Desk (JournalLine T J)). IsReadyToHand locks d.seat) desks
desks_ready {T} {J} locks clients desks ready k d low =
    let x = slice_index_or desks k d in
    ready.each k x.seat (slice_get-map (λ (z : Desk (JournalLine T J)). z.seat) desks k ∙ ap (option_map (λ (z : Desk (JournalLine T J)). z.seat)) (slice_get-get_or desks k d low))

module _ {T J : Type 0} (source : T → SourceEnd) (sink : T → SinkEnd) (may : ℕ → Bool) (behind : SourceEnd → ℕ → Bool) (took : List LogEntry → List Outcome → J → J → Type 0) (locks : List TableId) (n : ℕ) (feeder : Caller) (clients : List Caller) (fresh : AreFreshCallers locks n feeder clients) (all : AreAllCallers locks (clients ++ feeder ∷ []))
    (old new : List (Desk (JournalLine T J))) (ready : AreReady locks clients (map (λ (d : Desk (JournalLine T J)). d.seat) old)) (h : HaveServed source sink may behind took locks old new) where
  -- its seat before
  served_at : (k : ℕ) (d : Desk (JournalLine T J)) → slice_get new k ≡ Some d → (b : Desk (JournalLine T J)) × (slice_get old k ≡ Some b) × HasServed source sink may behind took locks b.line d.line b.seat d.seat
  served_at k d at =
      let low = slice_get_within new k d at in let long = h.long in let b = at_place old k (omega arith) in
      let s = h.each k d (omega arith) in (
        b.0,
        b.1,
        subst (λ (z : Desk (JournalLine T J)). HasServed source sink may behind took locks z.line d.line z.seat d.seat) (get_or_from_slice_get old k b.0 d b.1)
            (subst (λ (z : Desk (JournalLine T J)). HasServed source sink may behind took locks (slice_index_or old k d).line z.line (slice_index_or old k d).seat z.seat) (get_or_from_slice_get new k d d at) s),
      )

  client_at : (k : ℕ) (b : Desk (JournalLine T J)) → slice_get old k ≡ Some b → slice_get clients k ≡ Some b.seat.client
  client_at k b at = ap (λ (l : List Caller). slice_get l k) (sym ready.are)
      ∙ (slice_get-map (λ (s : Seat). s.client) (map (λ (d : Desk (JournalLine T J)). d.seat) old) k
      ∙ ap (option_map (λ (s : Seat). s.client)) (slice_get-map (λ (d : Desk (JournalLine T J)). d.seat) old k ∙ ap (option_map (λ (d : Desk (JournalLine T J)). d.seat)) at))

  count : length new ≡ length clients
  count = h.long ∙ (sym (length-map old (λ (d : Desk (JournalLine T J)). d.seat)) ∙ (sym (length-map (map (λ (d : Desk (JournalLine T J)). d.seat) old) (λ (s : Seat). s.client)) ∙ ap length ready.are))

  -- the seat in this place has called just this
  record IsAt (k : ℕ) (d : Desk (JournalLine T J)) (book : List LogEntry) : Type 0 where
    before : Desk (JournalLine T J)
    there : slice_get old k ≡ Some before
    made : MakesCalls 0 before.seat.client book d.seat.client
    became : List Outcome
    answers : HasAnsweredAll source sink may behind before.line.line d.line.line before.seat.client d.seat.client [] book [] became
    given : took book became before.line.journal d.line.journal
    nodes : AreOnNodes book
    left : (node : ℕ) → node ≤ DEMUX_NODES → HasLeft node d.seat.client

  choose : (k : ℕ) (o : Option (Desk (JournalLine T J))) → slice_get new k ≡ o → (book : List LogEntry) × ((d : Desk (JournalLine T J)) → o ≡ Some d → IsAt k d book)
  choose k None at = ([], λ d some. absurd (cc some))
  choose k (Some d) at =
      let s = served_at k d at in (
        s.2.calls,
        λ x same. let one : d ≡ x = cc same in subst (λ (z : Desk (JournalLine T J)). IsAt k z s.2.calls) one
            (record { before = s.0; there = s.1; made = s.2.made; became = s.2.told; answers = s.2.answers; given = s.2.given; nodes = s.2.nodes; left = s.2.left }),
      )

  book_at : (k : ℕ) → List LogEntry
  book_at k = (choose k (slice_get new k) refl).0

  seat_is : (k : ℕ) (d : Desk (JournalLine T J)) → slice_get new k ≡ Some d → IsAt k d (book_at k)
  unfolding book_at
  seat_is k d at = (choose k (slice_get new k) refl).1 d at

  its_books : List (List LogEntry)
  its_books = table book_at 0 (length new)

  abbrev its_clients : List Caller
  its_clients = map (λ (d : Desk (JournalLine T J)). d.seat.client) new

  -- a book is that of a seat
  seat_of : (k : ℕ) (book : List LogEntry) → slice_get its_books k ≡ Some book → (d : Desk (JournalLine T J)) × (slice_get new k ≡ Some d) × IsAt k d book
  unfolding its_books
  seat_of k book at =
      let t = table_at book_at 0 (length new) k book at in let low = t.0 in let d = at_place new k low in
      let here : 0 + k ≡ k = omega arith in
      (d.0, d.1, subst (IsAt k d.0) (ap book_at (sym here) ∙ t.1) (seat_is k d.0 d.1))

  module _ (k : ℕ) (d : Desk (JournalLine T J)) (book : List LogEntry) (a : IsAt k d book) where
    client_same : IsSameCaller a.before.seat.client d.seat.client
    client_same = same_calls 0 a.before.seat.client book d.seat.client a.made

    has_logged : (packets : Sources) → HasLogged packets k d.seat.client book
    has_logged packets =
        let f = fresh.each k a.before.seat.client (client_at k a.before a.there) in
        record {
          who = client_same.0 ∙ f.number;
          logged = logged_calls 0 a.before.seat.client [] book d.seat.client refl (called_none locks (n + 1) (k + 1) (2 ^ 40) a.before.seat.client f (plain []) k (λ (m : ℕ). true) refl).logged a.made;
          brought = brings_calls (packets d.seat.client.who) 0 a.before.seat.client [] book d.seat.client (λ i e here. absurd (cc here)) a.made;
        }

  -- what was called
  have_called : (stream : List (List ℕ)) (g : Caller) (feeding : List Fed) → HasFedAll every 64 may stream g feeding → HaveCalled every (fed_by stream) g feeding its_clients its_books
  unfolding its_books
  have_called stream g feeding fed = record {
    fed = fed.fed.made;
    logs = table_long book_at 0 (length new) ∙ sym (length-map new (λ (d : Desk (JournalLine T J)). d.seat.client));
    each = λ k client log at there.
        let s = seat_of k log there in let v = mapped (λ (d : Desk (JournalLine T J)). d.seat.client) new k client at in
        let same : s.0 ≡ v.0 = one_value new k s.0 v.0 s.1 v.1 in
        subst (λ (c : Caller). HasLogged (fed_by stream) k c log) (ap (λ (d : Desk (JournalLine T J)). d.seat.client) same ∙ v.2) (has_logged k s.0 log s.2 (fed_by stream));
    named = λ e is. refl;
  }

  -- they are the same callers
  pub still_callers : (g : Caller) → IsSameCaller feeder g → AreAllCallers locks (its_clients ++ g ∷ [])
  still_callers g same = still_all locks (clients ++ feeder ∷ []) (its_clients ++ g ∷ []) all (size, each) where
    long : length its_clients ≡ length clients
    long = length-map new (λ (d : Desk (JournalLine T J)). d.seat.client) ∙ count

    size : length (its_clients ++ g ∷ []) ≡ length (clients ++ feeder ∷ [])
    size = length-append its_clients (g ∷ []) ∙ (ap (λ (k : ℕ). k + 1) long ∙ sym (length-append clients (feeder ∷ [])))

    one_same : (k : ℕ) (c d : Caller) → slice_get clients k ≡ Some c → slice_get its_clients k ≡ Some d → IsSameCaller c d
    one_same k c d at there =
        let v = mapped (λ (x : Desk (JournalLine T J)). x.seat.client) new k d there in
        let a = seat_is k v.0 v.1 in
        let one : a.before.seat.client ≡ c = one_value clients k a.before.seat.client c (client_at k a.before a.there) at in
        subst (λ (x : Caller). IsSameCaller x d) one (subst (IsSameCaller a.before.seat.client) v.2 (client_same k v.0 (book_at k) a))

    each : (k : ℕ) (c d : Caller) → slice_get (clients ++ feeder ∷ []) k ≡ Some c → slice_get (its_clients ++ g ∷ []) k ≡ Some d → IsSameCaller c d
    each k c d at there = ⊎_elim
        (λ before. ⊎_elim (λ after. one_same k c d before after) (λ last. let low = slice_get_within clients k c before in let e = last.0 in absurd (omega (arith, long))) (at_end its_clients g d k there))
        (λ here. ⊎_elim (λ after. let low = slice_get_within its_clients k d after in let e = here.0 in absurd (omega (arith, long)))
        (λ last. subst (λ (x : Caller). IsSameCaller x d) here.1 (subst (IsSameCaller feeder) last.1 same)) (at_end its_clients g d k there))
        (at_end clients feeder c k at)

  -- ------ the whole

  module _ {B : Type 0} (told : List Fed → B → B → Type 0) (lines : List (JournalLine T J)) (are : map (λ (d : Desk (JournalLine T J)). d.line) old ≡ reverse lines) (x y : SourceEnd) (was now : B) (p q : FeederWorker) (is : IsNewFeeder feeder p)
      (row : List Bool) (whole : row ≡ replicate (DEMUX_NODES + 1) true) (w : HasFedToEnd (is_in row) 64 may behind told x y was now p q) (stop : q.stop ≡ None) (passed : HasPassedAll (is_in row) 64 may behind told x y p.puller was now q) (end : ReportParts J) (left : IsLeftBy locks q new end) where
    same_nodes : (node : ℕ) → node ≤ DEMUX_NODES → is_in row node ≡ every node
    same_nodes node low = ap (λ (r : List Bool). is_in r node) whole ∙ all_in node low

    -- all packets have passed all nodes
    through : HasPassedAll every 64 may behind told x y p.puller was now q
    through = as_named (is_in row) every 64 may behind told x y p.puller was now q same_nodes w.nodes passed

    taken : List ℕ
    taken = through.draws.carries.more

    pulls : Pulls [] taken through.packets q.puller
    unfolding taken
    pulls = through.draws.carries.pulls [] [] [] is.pulls

    fed : HasFedAll every 64 may (cut Of188 taken).packets q.feeder through.feeding
    unfolding taken
    fed = subst (λ (s : PacketSize). HasFedAll every 64 may (cut s taken).packets q.feeder through.feeding) is.size
        (worked_feeder every 64 may behind told x y p.puller was now q through [] is.pulls)

    -- the clock was read behind the bytes of each batch
    timed : (f : Fed) → IsReadBehind behind x p.puller f → IsTimed behind x f
    timed f r =
        let more = r.draws.carries.more in
        let front = Pulls-front [] more r.packets r.puller (r.draws.carries.pulls [] [] [] is.pulls) in
        let cut_is = ap (λ (s : PacketSize). length (cut s more).packets) (sym (r.draws.carries.size ∙ is.size)) ∙ ap length front.1 in
        record {
          at = r.at;
          read = more;
          consumes = r.draws.carries.consumes;
          packets = let count = r.count in let n = length-append r.packets front.0 in omega (arith, cut_is, count, n);
          moment = r.moment;
        }

    as_lines : length new ≡ length lines
    as_lines = h.long ∙ (sym (length-map old (λ (d : Desk (JournalLine T J)). d.line)) ∙ (ap length are ∙ length-reverse lines))

    own : AreServed source sink took told lines may behind x y was now q.feeder its_clients end.handed
    unfolding taken
    own = record {
      taken = taken;
      consumes = through.draws.carries.consumes;
      failed = has_failed q.puller.reading;
      reads = read_to p.puller.reading q.puller.reading x y through.draws.follows is.going through.done.stopped (w.few stop);
      head = left.head taken through.packets pulls ∙ ap (λ (s : PacketSize). head_of s taken (has_failed q.puller.reading)) (through.draws.carries.size ∙ is.size);
      passes = w.nodes;
      feeding = through.feeding;
      fed = fed;
      batches = through.told;
      clock = All-weaker (IsReadBehind behind x p.puller) (IsTimed behind x) timed through.feeding through.clock;
      each = length-map new (λ (d : Desk (JournalLine T J)). d.seat.client) ∙ as_lines;
      kept = ap length left.journals ∙ (length-map new (λ (d : Desk (JournalLine T J)). d.line.journal) ∙ as_lines);
      books = its_books;
      called = have_called (cut Of188 taken).packets q.feeder through.feeding fed;
      asked = λ c book at.
          let s = seat_of c book at in let a = s.2 in (
            a.before.line,
            ap (λ (l : List (JournalLine T J)). slice_get l c) (sym are) ∙ (slice_get-map (λ (d : Desk (JournalLine T J)). d.line) old c ∙ ap (option_map (λ (d : Desk (JournalLine T J)). d.line)) a.there),
            s.0.seat.client,
            slice_get-map (λ (d : Desk (JournalLine T J)). d.seat.client) new c ∙ ap (option_map (λ (d : Desk (JournalLine T J)). d.seat.client)) s.1,
            s.0.line.journal,
            ap (λ (l : List J). slice_get l c) left.journals ∙ (slice_get-map (λ (d : Desk (JournalLine T J)). d.line.journal) new c ∙ ap (option_map (λ (d : Desk (JournalLine T J)). d.line.journal)) s.1),
            record { end = s.0.line.line; first = a.before.seat.client; became = a.became; answers = a.answers; given = a.given; nodes = a.nodes; none = passes_none 0 a.before.seat.client book s.0.seat.client a.made },
          );
      left = λ c client at node low.
          let v = mapped (λ (d : Desk (JournalLine T J)). d.seat.client) new c client at in
          subst (HasLeft node) v.2 ((seat_is c v.0 v.1).left node low);
    }

    pub has_served : AreServed source sink took told lines may behind x y was now end.feeder end.clients.items end.handed
    has_served = rw (left.feeder, left.clients) own

-- two errors of one result
same_err : {T E : Type 0} (a b : E) (r : Result T E) → r ≡ Err a → r ≡ Err b → a ≡ b
same_err a b r is so = let both = sym is ∙ so in cc

pub desks_of-requires-clause-few : goal.desks_of-requires-clause-few
desks_of-requires-clause-few g c = let long = c.in_ok-adapter.ensures.fresh.long in let few = c.requires.few in let n = c.len.ensures in omega (arith, long, few, n)

pub desks_of-requires-clause-lines : goal.desks_of-requires-clause-lines
desks_of-requires-clause-lines g c = let long = c.in_ok-adapter.ensures.fresh.long in let few = c.requires.few in let n = c.len.ensures in omega (arith, long, few, n)

pub sit_and_pass-requires-clause-feeder : goal.sit_and_pass-requires-clause-feeder
sit_and_pass-requires-clause-feeder g c κs within =
    let a = c.in_ok-adapter in let f = c.in_ok-feeder in let is = f.ensures in
    record {
      some = omega arith;
      few = omega arith;
      fit = begun_feeder (plain []) a.adapter _ a.feeder a.clients.items a.ensures.fresh a.ensures.all f.feeder is.caller is.count is.given;
    }

pub sit_and_pass-requires-clause-begun : goal.sit_and_pass-requires-clause-begun
sit_and_pass-requires-clause-begun g c κs within =
    let a = c.in_ok-adapter in let f = c.in_ok-feeder in let is = f.ensures in
    begun_passed (plain []) a.adapter _ a.feeder a.clients.items a.ensures.fresh a.ensures.all f.feeder is.caller is.count is.given _ 64 _ _ g.B.Batches.took _ _ ((g.met.B.Batches g.world.𝓛 g.world.𝓜 g.world.𝓡 ((λ s x. x), (λ x. x), (λ x. x), λ x. x)).took_none _)

pub sit_and_pass-requires-clause-desks : goal.sit_and_pass-requires-clause-desks
sit_and_pass-requires-clause-desks g c κs within =
    let a = c.in_ok-adapter in
    desks_ready a.adapter a.clients.items c.in_ok-desks.desks.items (c.in_ok-desks.ensures.ready a.adapter a.feeder (counted a.adapter _ a.feeder a.clients.items a.ensures.fresh))

pub left_by-requires : goal.left_by-requires
left_by-requires g c = record { done = (c.sit_and_pass.ensures.feeder.all (no_stop _ c.in_default.is)).done }

pub returns-in-Some-clause-reads : goal.returns-in-Some-clause-reads
returns-in-Some-clause-reads g c h =
    let e = c.sit_and_pass.ensures.feeder in let p = c.in_ok-feeder.ensures in
    let long = c.no_report.ensures.too_long (same_err c.no_report.result TooLong _ refl h) in
    too_often _ _ c.in_ok-feeder.feeder.puller c.sit_and_pass.new.feeder.puller e.draws.0 e.draws.1 p.pulls p.start (e.too_long long.0 (c.in-Some.is ∙ ap Some long.1)).1

pub returns-in-Some-clause-failed : goal.returns-in-Some-clause-failed
returns-in-Some-clause-failed g c h = let same : c.no_report.result ≡ Failed = cc in absurd (c.no_report.ensures.failed same)

pub returns-clause-all : goal.returns-clause-all
returns-clause-all g c =
    let a = c.in_ok-adapter in let e = c.sit_and_pass.ensures in let left = c.in_ok-left_by.ensures in
    rw (left.locks, left.feeder, left.clients) (still_callers g.T.Source.end g.T.Sink.end (g.C.Clock.may_give c.args.clock.now) (g.C.Clock.may_give_behind c.args.clock.now) g.J.Journal.took a.adapter _ a.feeder a.clients.items a.ensures.fresh a.ensures.all c.in_ok-desks.desks.items c.sit_and_pass.new.desks.items
    (c.in_ok-desks.ensures.ready a.adapter a.feeder (counted a.adapter _ a.feeder a.clients.items a.ensures.fresh)) e.desks
    c.sit_and_pass.new.feeder.feeder (subst (λ (f : Caller). IsSameCaller f c.sit_and_pass.new.feeder.feeder) c.in_ok-feeder.ensures.caller e.feeder.same))

pub returns-clause-served : goal.returns-clause-served
returns-clause-served g c =
    let a = c.in_ok-adapter in let e = c.sit_and_pass.ensures in
    has_served g.T.Source.end g.T.Sink.end (g.C.Clock.may_give c.args.clock.now) (g.C.Clock.may_give_behind c.args.clock.now) g.J.Journal.took a.adapter _ a.feeder a.clients.items a.ensures.fresh a.ensures.all c.in_ok-desks.desks.items c.sit_and_pass.new.desks.items
    (c.in_ok-desks.ensures.ready a.adapter a.feeder (counted a.adapter _ a.feeder a.clients.items a.ensures.fresh)) e.desks
    g.B.Batches.took c.args.lines.items c.in_ok-desks.ensures.lines _ _ c.args.batches.now c.sit_and_pass.new.batches c.in_ok-feeder.feeder c.sit_and_pass.new.feeder c.in_ok-feeder.ensures
    _ refl e.feeder c.in_default.is (e.feeder.all (no_stop _ c.in_default.is)) c.in_ok-left_by.field-0 c.in_ok-left_by.ensures
