-- What a report of a run tells passes each test.
use Rattle.report_check.proofs.Imports.{◌≡◌, ◌<◌, ◌+◌, refl, sym, subst, ◌∙◌, ℕ, zero, suc, List, [], ◌∷◌, true, length, map, arith, Some, slice_get, ◌≢◌, slice_get_within, All, DEMUX_NODES, Outcome, History, IsLegalFor, LogEntry, NoMemory, rules_at, clients_in, IsScript, Scripted, outcomes, Step, feeding, steps_of, replies, sources, ToldNode, Told, IsNodeInRange, are_nodes, feeder_of, IsRunOf, IsRest, queues_in, feeds, all_played, IsSoundNode, AreSoundNodes, IsPlayed, dealt, IsDoneAs, AreDoneAs, HasPassed, brought_from, same_filled, ◌≤◌, ap, Bool, false, nat_eq, sum, take, drop, length-take, nat_tests, All-head, All-tail, All-nil, All-cons, All-weaker, sum_by-cons, Option, None, IsSome, IfSome, slice_index_or, nat_le, range_with_len, length-drop, get_or-map-range_with_len, Packets, IsPlayedBatch, StandsAmong, are_few, are_placed, LARGEST_READ, act_of, Want, Read, writes_of, IsWritten, Event, ClientRequest, Own, Attach, Detach, Pass, Batches, batch_at, call_of, own_call, pass_of, played, plays_of, IsRequestInRange, IsRequestOf, next_event, Batch, IsRun, IsEvent, few_in_all, is_callable, are_sound, completed}
use Rattle.report_check.proofs.Right.{all_below, zero_fed}
use Rattle.report_check.proofs.Doing.{done_is_walked}
use Rattle.report_check.proofs.Lists.{at_all}
use Rattle.report_check.proofs.Feeding.{is_feeds, Fits, size_of}
use Rattle.report_check.proofs.Nodes.{told_at, same_queues}
use Rattle.report_check.proofs.Players.{length_at, same_sources}
use Rattle.std.proofs.Common.{nat_lt}
use Rattle.client_core.proofs.Numbering.{next_is_asked}

-- ------ Each entry of a run is one of its callers, and can be made again
-- ------ the feeder

abbrev pub CanStep : (packets : ℕ) → (counts : List ℕ) → Step → Type 0
CanStep packets counts s = is_callable packets counts 0 s.act ≡ true

pub feeding_can : (packets : ℕ) (counts : List ℕ) (first step : ℕ) (bs : List Batch) → All Fits bs → first + sum (map size_of bs) ≤ packets → All (CanStep packets counts) (feeding first step bs)
feeding_can packets counts first step [] sizes within = All-cons (CanStep packets counts) _ [] refl (All-nil (CanStep packets counts))
feeding_can packets counts first step (b ∷ bs) sizes within =
    let fits = All-head Fits b bs sizes in
    let all : sum (map size_of (b ∷ bs)) ≡ b.size + sum (map size_of bs) = sum_by-cons (λ (x : ℕ). x) b.size (map size_of bs) in
    let rest : first + b.size + sum (map size_of bs) ≤ packets = omega (arith, all, within) in
    let some : nat_lt 0 b.size ≡ true = grind (arith, nat_tests, fits.0) in
    let few : nat_le b.size 64 ≡ true = grind (arith, nat_tests, fits.1) in
    let low : first + b.size ≤ packets = omega (arith, rest) in
    let inside : nat_le (first + b.size) packets ≡ true = grind (arith, nat_tests, low) in
    All-cons (CanStep packets counts) _ (feeding (first + b.size) (suc step) bs) (rw (some, few, inside) refl)
    (feeding_can packets counts (first + b.size) (suc step) bs (All-tail Fits b bs sizes) rest)

fed_one : (packets : ℕ) (counts : List ℕ) (f : LogEntry) (es : List LogEntry) → (b : Bool) → nat_eq f.who 0 ≡ b → All (CanStep packets counts) (steps_of 0 (f ∷ es)) → All (CanStep packets counts) (steps_of 0 es)
fed_one packets counts f es true t all =
    let there : All (CanStep packets counts) (record { step = f.step; act = f.act } ∷ steps_of 0 es) = rw t at all in
    All-tail (CanStep packets counts) (record { step = f.step; act = f.act }) (steps_of 0 es) there
fed_one packets counts f es false t all = rw t at all

-- an entry of the feeder has one of its calls
pub fed_can : (packets : ℕ) (counts : List ℕ) (es : List LogEntry) → All (CanStep packets counts) (steps_of 0 es) → (i : ℕ) (e : LogEntry) → slice_get es i ≡ Some e → e.who ≡ 0 → is_callable packets counts e.who e.act ≡ true
fed_can packets counts [] all i e at who = absurd (cc)
fed_can packets counts (f ∷ es) all zero e at who =
    let same : f ≡ e = cc in
    let t : nat_eq f.who 0 ≡ true = rw same (grind (arith, nat_tests, who)) in
    let there : All (CanStep packets counts) (record { step = f.step; act = f.act } ∷ steps_of 0 es) = rw t at all in
    let mine : is_callable packets counts 0 f.act ≡ true = All-head (CanStep packets counts) (record { step = f.step; act = f.act }) (steps_of 0 es) there in
    subst (λ (k : ℕ). is_callable packets counts k e.act ≡ true) (sym who) (subst (λ (x : LogEntry). is_callable packets counts 0 x.act ≡ true) same mine)
fed_can packets counts (f ∷ es) all (suc i) e at who = fed_can packets counts es (fed_one packets counts f es (nat_eq f.who 0) refl all) i e at who

-- ------ a client

want_can : (packets : ℕ) (counts : List ℕ) (who : ℕ) (w : Want) (moment : ℕ) → IsRequestInRange (Own w) → is_callable packets counts who (act_of (own_call w moment)) ≡ true
want_can packets counts who (Read count) moment is =
    let low : nat_le count LARGEST_READ ≡ true = grind (arith, nat_tests, is) in
    low
want_can packets counts who _ moment is = refl

-- a batch that stands among what is played
pass_can : (packets : ℕ) (counts : List ℕ) (who : ℕ) (all : List (List ℕ)) (o : Option Packets) (moment : ℕ) → slice_index_or counts who 0 ≡ length all → IsSome o → IfSome o IsPlayedBatch → IfSome o (StandsAmong all)
    → is_callable packets counts who (act_of (pass_of o moment)) ≡ true
pass_can packets counts who all None moment count some is stands = absurd (cc some)
pass_can packets counts who all (Some batch) moment count some is stands =
    let long : length batch.packets ≡ length (take (length batch.packets) (drop batch.first all)) = ap (λ (ps : List (List ℕ)). length ps) stands in
    let inside : batch.first + length batch.packets ≤ slice_index_or counts who 0 =
    omega (arith, count, is.some, long, length-take (length batch.packets) (drop batch.first all), length-drop batch.first all) in
    let some' : nat_lt 0 (length batch.packets) ≡ true = grind (arith, nat_tests, is.some) in
    let few : nat_le (length batch.packets) 64 ≡ true = grind (arith, nat_tests, is.few) in
    let within : nat_le (batch.first + length batch.packets) (slice_index_or counts who 0) ≡ true = grind (arith, nat_tests, inside) in
    rw (some', few, within) refl

-- what holds of all batches holds of one
at_write : (P : Packets → Type 0) (batches : Batches) (write : ℕ) → All (λ batch. IfSome batch P) batches → IfSome (batch_at batches write) P
at_write P [] write all = tt
at_write P (b ∷ bs) zero all = All-head (λ batch. IfSome batch P) b bs all
at_write P (b ∷ bs) (suc write) all = at_write P bs write (All-tail (λ batch. IfSome batch P) b bs all)

module _ (script : Scripted) (known : IsScript script) (packets : ℕ) (c : ℕ) (low : c < 8) where
  abbrev counts : List ℕ
  counts = map (λ ps. length ps) (all_played script)

  -- what the client plays is counted
  counted : slice_index_or counts (suc c) 0 ≡ length (played c script)
  counted = length_at (map (λ client. played client script) (range_with_len 0 8)) c ∙ ap (λ (ps : List (List ℕ)). length ps) (get_or-map-range_with_len (λ client. played client script) 0 8 c c [] low (omega arith))

  -- no write is too long
  short : All (λ bytes. length bytes ≤ 12032) (writes_of c script.writes)
  short = All-weaker IsWritten (λ bytes. length bytes ≤ 12032) (λ bytes is. is.few) (writes_of c script.writes) (known.writes c [] (omega (arith, low, known.clients))).each

  request_can : (r : ClientRequest) (moment : ℕ) → IsRequestInRange r → IsRequestOf (plays_of c script) r → is_callable packets counts (suc c) (act_of (call_of (plays_of c script) r moment)) ≡ true
  request_can (Own w) moment is of = want_can packets counts (suc c) w moment is
  request_can (Attach node pids) moment is of = refl
  request_can (Detach node) moment is of = refl
  request_can (Pass write) moment is of =
      pass_can packets counts (suc c) (played c script) (batch_at (plays_of c script) write) moment counted of
      (at_write IsPlayedBatch (plays_of c script) write (are_few (writes_of c script.writes) short))
      (at_write (StandsAmong (played c script)) (plays_of c script) write (are_placed (writes_of c script.writes)))

  event_can : (o : Option Event) (e : LogEntry) → ((event : Event) → o ≡ Some event → IsRequestInRange event.want × IsRequestOf (plays_of c script) event.want) → IsEvent (plays_of c script) o e
      → is_callable packets counts (suc c) e.act ≡ true
  event_can None e range is = absurd is
  event_can (Some event) e range is = (let r = range event refl in rw is.1.1 (request_can event.want is.1.0 r.0 r.1))

-- ------ a run

module _ (script : Scripted) (packets : List (List ℕ)) (hs : List (List LogEntry)) (known : IsScript script) (run : IsRun script 64 packets hs) where
  abbrev amounts : List ℕ
  amounts = map (λ ps. length ps) (all_played script)

  can_by : (node place : ℕ) (h : List LogEntry) (e : LogEntry) → slice_get hs node ≡ Some h → slice_get h place ≡ Some e → (who : ℕ) → e.who ≡ who → is_callable (length packets) amounts e.who e.act ≡ true
  can_by node place h e at here zero is =
      let all : All (CanStep (length packets) amounts) (feeding 0 0 run.fed.batches) = feeding_can (length packets) amounts 0 0 run.fed.batches run.fed.each_size (omega (arith, run.fed.whole)) in
      let mine : All (CanStep (length packets) amounts) (steps_of 0 h) = subst (λ (ss : List Step). All (CanStep (length packets) amounts) ss) (sym (run.fed.on_each node h at)) all in
      fed_can (length packets) amounts h mine place e here is
  can_by node place h e at here (suc c) is =
      let places = run.places node place h e at here in
      let low : c < clients_in script = omega (arith, places.2, is) in
      let d = run.clients_done c low in
      let number : e.who ≡ c + 1 = omega (arith, is) in
      let asked = d.calls.events e.step e (d.calls.only node place h e at here number) in
      let eight : c < 8 = omega (arith, low, few_in_all script known.ranges) in
      subst (λ (k : ℕ). is_callable (length packets) amounts k e.act ≡ true) (sym is)
      (event_can script known (length packets) c eight (next_event c script (replies (take e.step d.made))) e (λ event at'. (let a = next_is_asked c script (replies (take e.step d.made)) event known.ranges at' in (a.1.1, a.1.2))) asked)

  sound_from : (node place : ℕ) (h rest : List LogEntry) → slice_get hs node ≡ Some h → ((i : ℕ) (e : LogEntry) → slice_get rest i ≡ Some e → slice_get h (place + i) ≡ Some e)
      → are_sound (clients_in script) (length packets) amounts rest ≡ true
  sound_from node place h [] at there = refl
  sound_from node place h (e ∷ es) at there =
      let here = there 0 e refl in
      let who : nat_le e.who (clients_in script) ≡ true = grind (arith, nat_tests, (run.places node (place + 0) h e at here).2) in
      let can = can_by node (place + 0) h e at here e.who refl in
      let later = sound_from node (suc place) h es at (λ i f at'. let sum : place + suc i ≡ suc place + i = omega arith in subst (λ (k : ℕ). slice_get h k ≡ Some f) sum (there (suc i) f at')) in
      rw (who, can, later) refl

  pub sound : (node : ℕ) (h : List LogEntry) → slice_get hs node ≡ Some h → are_sound (clients_in script) (length packets) amounts h ≡ true
  sound node h at = sound_from node 0 h h at (λ i e here. let sum : i ≡ 0 + i = omega arith in subst (λ (k : ℕ). slice_get h k ≡ Some e) sum here)

-- ------ clients

pub done_from : (script : Scripted) (hs : List (List LogEntry)) (client : ℕ) (told : List (List Outcome))
    → ((i : ℕ) (o : List Outcome) → slice_get told i ≡ Some o → IsDoneAs script hs (client + i) o) → AreDoneAs script hs client told
done_from script hs client [] each = tt
done_from script hs client (o ∷ told) each =
    let start : client + 0 ≡ client = omega arith in (
      subst (λ (c : ℕ). IsDoneAs script hs c o) start (each 0 o refl),
      done_from script hs (client + 1) told (λ i p at. let sum : client + suc i ≡ client + 1 + i = omega arith in subst (λ (c : ℕ). IsDoneAs script hs c p) sum (each (suc i) p at)),
    )

pub done_at : (script : Scripted) (hs : List (List LogEntry)) (client : ℕ) (told : List (List Outcome)) → AreDoneAs script hs client told
    → (i : ℕ) (o : List Outcome) → slice_get told i ≡ Some o → IsDoneAs script hs (client + i) o
done_at script hs client [] all i o at = absurd (cc)
done_at script hs client (p ∷ told) all zero o at =
    let same : p ≡ o = cc in
    let start : client ≡ client + 0 = omega arith in
    subst (λ (c : ℕ). IsDoneAs script hs c o) start (subst (λ (q : List Outcome). IsDoneAs script hs client q) same all.0)
done_at script hs client (p ∷ told) all (suc i) o at =
    let sum : client + 1 + i ≡ client + suc i = omega arith in
    subst (λ (c : ℕ). IsDoneAs script hs c o) sum (done_at script hs (client + 1) told all.1 i o at)

-- ------ all tests

module _ (script : Scripted) (packets : List (List ℕ)) (t : Told) (known : IsScript script) (nodes : All IsNodeInRange t.nodes) (order : are_nodes 0 t.nodes ≡ true)
    (r : IsRunOf script packets t.outcomes (completed t)) where
  stands : (i : ℕ) (n : ToldNode) → slice_get t.nodes i ≡ Some n → slice_get (completed t) n.node ≡ Some n.entries
  unfolding completed
  stands i n at = told_at (DEMUX_NODES + 1) 0 (feeder_of t.head.tally.packets t.nodes) t.nodes order (all_below t.nodes nodes) i n at n.node (omega arith)

  fed : (i : ℕ) (n : ToldNode) → slice_get t.nodes i ≡ Some n → steps_of 0 n.entries ≡ feeding 0 0 r.run.fed.batches
  fed i n at = r.run.fed.on_each n.node n.entries (stands i n at)

  nodes_by : (ns : List ToldNode) → ((i : ℕ) (n : ToldNode) → slice_get ns i ≡ Some n → slice_get t.nodes i ≡ Some n) → AreSoundNodes (clients_in script) (length packets) (map (λ ps. length ps) (all_played script)) ns
  nodes_by [] there = tt
  nodes_by (n ∷ ns) there =
      let first : steps_of 0 n.entries ≡ feeding 0 0 r.run.fed.batches = fed 0 n (there 0 n refl) in
      let all : feeds (length packets) 0 0 (feeding 0 0 r.run.fed.batches) ≡ true = is_feeds (length packets) 0 0 r.run.fed.batches r.run.fed.each_size (omega (arith, r.run.fed.whole)) in (
        subst (λ (ss : List Step). feeds (length packets) 0 0 ss ≡ true) (sym first) all,
        at_all (IsSoundNode (clients_in script) (length packets) (map (λ ps. length ps) (all_played script)) n.entries) (n ∷ ns) (λ i m at.
            (sound script packets (completed t) known r.run m.node m.entries (stands i m (there i m at)), fed i m (there i m at) ∙ sym first)),
      )

  plays : (i : ℕ) (n : ToldNode) → slice_get t.nodes i ≡ Some n → IsPlayed (brought_from packets (all_played script)) n
  plays i n at =
      let here = stands i n at in
      (subst (λ (h : History). IsLegalFor (rules_at n.node) h) (sym (same_filled (brought_from packets (all_played script)) (sources script packets) (same_sources script known.clients packets) n.entries)) (r.run.legal n.node n.entries here), at_all (λ e. e.response ≢ NoMemory) n.entries (λ j e there. (r.run.places n.node j n.entries e here there).3))

  done : (i : ℕ) (o : List Outcome) → slice_get t.outcomes i ≡ Some o → IsDoneAs script (dealt t.nodes) i o
  unfolding completed
  done i o at =
      let low : i < clients_in script = omega (arith, slice_get_within t.outcomes i o at, r.clients) in
      let d = r.run.clients_done i low in
      let rest : IsRest i script [] (queues_in i (completed t)) d.made = done_is_walked i script (completed t) (λ node place h e a b. let p = r.run.places node place h e a b in (p.0, p.1)) d in
      let same : queues_in i (completed t) ≡ queues_in i (dealt t.nodes) = same_queues i (DEMUX_NODES + 1) 0 (feeder_of t.head.tally.packets t.nodes) t.nodes (zero_fed t.head.tally.packets t.nodes) in
      let told : Some o ≡ Some (outcomes i script (replies d.made)) = sym at ∙ r.outcomes i low in
      record {
        made = d.made;
        rest = subst (λ (qs : List (List LogEntry)). IsRest i script [] qs d.made) same rest;
        outcomes = cc;
      }

  pub passes : HasPassed script packets t
  passes = record {
    clients = r.clients;
    nodes = nodes_by t.nodes (λ i n at. at);
    done = done_from script (dealt t.nodes) 0 t.outcomes (λ i o at. let sum : i ≡ 0 + i = omega arith in subst (λ (c : ℕ). IsDoneAs script (dealt t.nodes) c o) sum (done i o at));
    played = at_all (IsPlayed (brought_from packets (all_played script))) t.nodes plays;
  }
