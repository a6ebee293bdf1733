-- Whether a report is right, by what was found of it.
use Rattle.report_check.proofs.Imports.{◌≡◌, ◌<◌, ◌≤◌, ◌^◌, refl, sym, ap, subst, ◌∙◌, ℕ, zero, suc, List, [], ◌∷◌, true, length, map, arith, nat_tests, All-head, All-tail, All-nil, All-cons, ◌≢◌, ◌&&◌, nat_le, nat_lt, All, DEMUX_NODES, Input, Frontend, FromDvr, Act, ReadAct, PassAct, LogEntry, StreamHead, IsScript, Scripted, ToldNode, Told, text_of, IsInRange, IsNodeInRange, IsNoReport, IsReport, one_thing, completed, IsRunOf, IsRightReport, IsCallable, brought_from, count_for, is_callable, is_sound, are_sound, IsSoundNode, AreSoundNodes, HasPassed, and_parts, inl, inr, append-nil, at_place, Option, Some, None, slice_get, Outcome, History, IsLegalFor, Sources, filled, NoMemory, Passed, rules_at, clients_in, outcomes, feeding, steps_of, HasDone, replies, sources, IsEntryOf, are_nodes, renumbered, tiled, feeder_of, AreInPlace, IsRest, queues_in, step_of, all_played, IsPlayed, dealt, IsDoneAs, same_filled, sum, of_feeder}
use Rattle.std.specs.Prelude.{◌+◌}
use Rattle.report_check.proofs.Few.{few_entries}
use Rattle.report_check.proofs.Passed.{passes, done_at}
use Rattle.report_check.proofs.Empty.{legal_on, told_there, steps_there, ArePlain, plain, tiles, tiled_feeds, sizes, sums}
use Rattle.report_check.proofs.Right.{zero_fed}
use Rattle.report_check.proofs.Doing.{walked_is_done}
use Rattle.report_check.proofs.Lists.{all_at}
use Rattle.report_check.proofs.Feeding.{feeds_is, IsFeedingFrom, size_of}
use Rattle.report_check.proofs.Nodes.{TellsOrNot, complete_at, complete_long, each_whole, in_place, same_queues}
use Rattle.report_check.proofs.Players.{length_at, same_sources}
use Rattle.report_check.proofs.Completing.{ArePassed, apart}
use Rattle.report_check.proofs.Idle.{AllFeed, feeding_feeds, passed_from, passed_at}

-- ------ The feeder's entries, on whatever node
-- calls of the feeder alone, answered Passed, which pass so many packets
pub record IsFeeder (packets : ℕ) (es : List LogEntry) : Type 0 where
  pub plain : ArePlain es
  pub fed : IsFeedingFrom packets 0 0 (map step_of es)

plain_zip : (es : List LogEntry) → ArePassed es → AllFeed (map step_of es) → ArePlain es
plain_zip [] a b = tt
plain_zip (e ∷ es) a b = (a.0, a.1, b.0, plain_zip es a.2 b.1)

-- on a node whose history is legal
pub node_feeder : (node : ℕ) (packets : Sources) (count : ℕ) (h : List LogEntry) → IsLegalFor (rules_at node) (filled packets h)
    → IsFeedingFrom count 0 0 (steps_of 0 h) → IsFeeder count (of_feeder h)
node_feeder node packets count h legal f =
    let feeds : AllFeed (map step_of (of_feeder h)) = subst AllFeed (sym f.same) (feeding_feeds 0 0 f.batches) in
    let passed : ArePassed (of_feeder h) = passed_from h (λ i e at. passed_at (rules_at node) packets h i e at legal) feeds in
    record { plain = plain_zip (of_feeder h) passed feeds; fed = record { batches = f.batches; sizes = f.sizes; whole = f.whole; same = f.same } }

-- where no node is told
pub tiled_feeder : (n : ℕ) → IsFeeder n (tiled n 0 0 n)
tiled_feeder n =
    let all : sum (map size_of (tiles n 0 n)) + 0 ≡ n = sums n 0 n (omega arith) (omega arith) in
    record {
      plain = plain n 0 0 n;
      fed = record {
        batches = tiles n 0 n;
        sizes = sizes n 0 n;
        whole = omega (arith, all);
        same = tiled_feeds n 0 0 n;
      };
    }

-- ------ Where each test is passed, the histories for which a report stands are those of a run
-- ------ entries

sound_at : (clients packets : ℕ) (counts : List ℕ) (es : List LogEntry) → are_sound clients packets counts es ≡ true → (i : ℕ) (e : LogEntry) → slice_get es i ≡ Some e → e.who ≤ clients
sound_at clients packets counts [] all i e at = absurd (cc)
sound_at clients packets counts (f ∷ es) all zero e at =
    let same : f ≡ e = cc in
    let front = and_parts (is_sound clients packets counts f) (are_sound clients packets counts es) all in
    let parts = and_parts (nat_le f.who clients) (is_callable packets counts f.who f.act) front.0 in
    let low : f.who ≤ clients = grind (arith, nat_tests, parts.0) in
    subst (λ (x : LogEntry). x.who ≤ clients) same low
sound_at clients packets counts (f ∷ es) all (suc i) e at = sound_at clients packets counts es (and_parts (is_sound clients packets counts f) (are_sound clients packets counts es) all).1 i e at

-- ------ nodes

feeder_by : (clients : ℕ) (packets : List (List ℕ)) (all : List (List (List ℕ))) (counts : List ℕ) (count : ℕ) → count ≡ length packets → (ns : List ToldNode) → AreSoundNodes clients (length packets) counts ns
    → All (IsPlayed (brought_from packets all)) ns → IsFeeder (length packets) (feeder_of count ns)
feeder_by clients packets all counts count is [] sound played = subst (λ (k : ℕ). IsFeeder k (tiled count 0 0 count)) is (tiled_feeder count)
feeder_by clients packets all counts count is (n ∷ ns) sound played =
    node_feeder n.node (brought_from packets all) (length packets) n.entries (All-head (IsPlayed (brought_from packets all)) n ns played).0 (feeds_is (length packets) 0 0 (steps_of 0 n.entries) sound.0)

sound_nodes : (clients packets : ℕ) (counts : List ℕ) (count : ℕ) (ns : List ToldNode) → AreSoundNodes clients packets counts ns → (i : ℕ) (n : ToldNode) → slice_get ns i ≡ Some n
    → (are_sound clients packets counts n.entries ≡ true) × (steps_of 0 n.entries ≡ map step_of (feeder_of count ns))
sound_nodes clients packets counts count [] sound i n at = absurd (cc)
sound_nodes clients packets counts count (m ∷ ns) sound i n at =
    let one = all_at (IsSoundNode clients packets counts m.entries) (m ∷ ns) sound.1 i n at in
    (one.0, one.1)

-- ------ the run

module _ (script : Scripted) (eight : length script.writes ≡ 8) (packets : List (List ℕ)) (t : Told) (nodes : All IsNodeInRange t.nodes) (order : are_nodes 0 t.nodes ≡ true)
    (count : t.head.tally.packets ≡ length packets) (p : HasPassed script packets t) where
  -- the packets of all callers, and how many they are
  abbrev given : Sources
  given = brought_from packets (all_played script)

  abbrev counts : List ℕ
  counts = map (λ ps. length ps) (all_played script)

  feeder : IsFeeder (length packets) (feeder_of t.head.tally.packets t.nodes)
  feeder = feeder_by (clients_in script) packets (all_played script) counts t.head.tally.packets count t.nodes p.nodes p.played

  there : (node : ℕ) (h : List LogEntry) → slice_get (completed t) node ≡ Some h → TellsOrNot t.nodes (feeder_of t.head.tally.packets t.nodes) node h
  unfolding completed
  there node h at =
      let sum : 0 + node ≡ node = omega arith in
      subst (λ (k : ℕ). TellsOrNot t.nodes (feeder_of t.head.tally.packets t.nodes) k h) sum (complete_at (DEMUX_NODES + 1) 0 (feeder_of t.head.tally.packets t.nodes) t.nodes node h at)

  places_by : (node place : ℕ) (h : List LogEntry) (e : LogEntry) → TellsOrNot t.nodes (feeder_of t.head.tally.packets t.nodes) node h → slice_get h place ≡ Some e
      → (e.node ≡ node) × (e.place ≡ place) × (e.who ≤ clients_in script) × (e.response ≢ NoMemory)
  places_by node place h e (inl is) here =
      let at : slice_get is.node.entries place ≡ Some e = subst (λ (es : List LogEntry). slice_get es place ≡ Some e) is.entries here in
      let range = all_at IsNodeInRange t.nodes nodes is.index is.node is.at in
      let one = all_at (IsEntryOf is.node.node) is.node.entries range.entries place e at in
      let sound = sound_nodes (clients_in script) (length packets) counts t.head.tally.packets t.nodes p.nodes is.index is.node is.at in
      let played = all_at (IsPlayed given) t.nodes p.played is.index is.node is.at in (
        one.1 ∙ is.number,
        in_place is.node (each_whole 0 t.nodes order is.index is.node is.at) place e at,
        sound_at (clients_in script) (length packets) counts is.node.entries sound.0 place e at,
        all_at (λ x. x.response ≢ NoMemory) is.node.entries played.1 place e at,
      )
  places_by node place h e (inr same) here =
      let at : slice_get (renumbered node 0 (feeder_of t.head.tally.packets t.nodes)) place ≡ Some e = subst (λ (es : List LogEntry). slice_get es place ≡ Some e) same here in
      let one = told_there node 0 (feeder_of t.head.tally.packets t.nodes) feeder.plain place e at in
      let passed : e.response ≡ Passed = one.3 in
      (one.0, omega (arith, one.1), omega (arith, one.2), λ no. absurd (apart (sym passed ∙ no)))

  places : (node place : ℕ) (h : List LogEntry) (e : LogEntry) → slice_get (completed t) node ≡ Some h → slice_get h place ≡ Some e
      → (e.node ≡ node) × (e.place ≡ place) × (e.who ≤ clients_in script) × (e.response ≢ NoMemory)
  places node place h e at here = places_by node place h e (there node h at) here

  legal_given : (node : ℕ) (h : List LogEntry) → TellsOrNot t.nodes (feeder_of t.head.tally.packets t.nodes) node h → IsLegalFor (rules_at node) (filled given h)
  legal_given node h (inl is) =
      let played = all_at (IsPlayed given) t.nodes p.played is.index is.node is.at in
      let mine : IsLegalFor (rules_at node) (filled given is.node.entries) = subst (λ (k : ℕ). IsLegalFor (rules_at k) (filled given is.node.entries)) is.number played.0 in
      subst (λ (es : List LogEntry). IsLegalFor (rules_at node) (filled given es)) (sym is.entries) mine
  legal_given node h (inr same) =
      let legal = legal_on (rules_at node) given node 0 (feeder_of t.head.tally.packets t.nodes) [] tt feeder.plain in
      let mine : IsLegalFor (rules_at node) (filled given (renumbered node 0 (feeder_of t.head.tally.packets t.nodes))) =
      subst (λ (g : History). IsLegalFor (rules_at node) g) (append-nil (filled given (renumbered node 0 (feeder_of t.head.tally.packets t.nodes)))) legal in
      subst (λ (es : List LogEntry). IsLegalFor (rules_at node) (filled given es)) (sym same) mine

  legal_by : (node : ℕ) (h : List LogEntry) → TellsOrNot t.nodes (feeder_of t.head.tally.packets t.nodes) node h → IsLegalFor (rules_at node) (filled (sources script packets) h)
  legal_by node h is = subst (λ (g : History). IsLegalFor (rules_at node) g) (same_filled given (sources script packets) (same_sources script eight packets) h) (legal_given node h is)

  steps_by : (node : ℕ) (h : List LogEntry) → TellsOrNot t.nodes (feeder_of t.head.tally.packets t.nodes) node h → steps_of 0 h ≡ feeding 0 0 feeder.fed.batches
  steps_by node h (inl is) =
      let sound = sound_nodes (clients_in script) (length packets) counts t.head.tally.packets t.nodes p.nodes is.index is.node is.at in
      ap (steps_of 0) is.entries ∙ (sound.1 ∙ feeder.fed.same)
  steps_by node h (inr same) = ap (steps_of 0) same ∙ (steps_there node 0 (feeder_of t.head.tally.packets t.nodes) feeder.plain ∙ feeder.fed.same)

  -- ------ a client

  record IsDone (c : ℕ) : Type 0 where
    done : HasDone script c (completed t)
    outcomes : slice_get t.outcomes c ≡ Some (outcomes c script (replies done.made))

  in_places : AreInPlace (completed t)
  in_places node place h e at here = let x = places node place h e at here in (x.0, x.1)

  done_by : (c : ℕ) (o : List Outcome) → slice_get t.outcomes c ≡ Some o → IsDoneAs script (dealt t.nodes) c o → IsDone c
  unfolding completed
  done_by c o at is =
      let same : queues_in c (completed t) ≡ queues_in c (dealt t.nodes) = same_queues c (DEMUX_NODES + 1) 0 (feeder_of t.head.tally.packets t.nodes) t.nodes (zero_fed t.head.tally.packets t.nodes) in
      let rest : IsRest c script [] (queues_in c (completed t)) is.made = subst (λ (qs : List (List LogEntry)). IsRest c script [] qs is.made) (sym same) is.rest in
      let d = walked_is_done c script (completed t) in_places is.made rest in
      record {
        done = d.0;
        outcomes = at ∙ ap (λ (x : List Outcome). Some x) (is.outcomes ∙ ap (λ (made : List LogEntry). outcomes c script (replies made)) (sym d.1));
      }

  some_at : (c : ℕ) → c < clients_in script → (o : Option (List Outcome)) → slice_get t.outcomes c ≡ o → IsDone c
  some_at c is (Some o) at =
      let sum : 0 + c ≡ c = omega arith in
      done_by c o at (subst (λ (k : ℕ). IsDoneAs script (dealt t.nodes) k o) sum (done_at script (dealt t.nodes) 0 t.outcomes p.done c o at))
  some_at c is None at =
      let low : c < length t.outcomes = omega (arith, is, p.clients) in
      let s = at_place t.outcomes c low in
      let none : None ≡ Some s.0 = sym at ∙ s.1 in
      absurd (cc none)

  client : (c : ℕ) → c < clients_in script → IsDone c
  client c is = some_at c is (slice_get t.outcomes c) refl

  pub is_run : IsRunOf script packets t.outcomes (completed t)
  unfolding completed
  is_run = record {
    run = record {
      nodes = complete_long (DEMUX_NODES + 1) 0 (feeder_of t.head.tally.packets t.nodes) t.nodes;
      places = places;
      legal = λ node h at. legal_by node h (there node h at);
      fed = record {
        batches = feeder.fed.batches;
        each_size = feeder.fed.sizes;
        whole = omega (arith, feeder.fed.whole);
        on_each = λ node h at. steps_by node h (there node h at);
      };
      clients_done = λ c is. (client c is).done;
    };
    clients = p.clients;
    outcomes = λ c is. (client c is).outcomes;
  }

-- ------ the answer

pub right : (script : Scripted) (eight : length script.writes ≡ 8) (packets : List (List ℕ)) (head : StreamHead) (bytes : List ℕ) (t : Told) → IsReport t bytes → t.head ≡ head → head.tally.packets ≡ length packets
    → HasPassed script packets t → IsRightReport script packets head bytes
right script eight packets head bytes t report same count passed =
    let mine : t.head.tally.packets ≡ length packets = ap (λ (h : StreamHead). h.tally.packets) same ∙ count in
    record { told = t; report = report; same = same; run = is_run script eight packets t report.range.parts.nodes report.order.nodes mine passed }

pub no_report : (script : Scripted) (packets : List (List ℕ)) (head : StreamHead) (bytes : List ℕ) → IsNoReport bytes → IsRightReport script packets head bytes → ⊥
no_report script packets head bytes none r = none r.told r.report.range r.report.order r.report.text

only : (bytes : List ℕ) (t u : Told) → IsReport t bytes → IsReport u bytes → t ≡ u
only bytes t u a b = one_thing t u a.range b.range (sym a.text ∙ b.text)

pub other_head : (script : Scripted) (packets : List (List ℕ)) (head : StreamHead) (bytes : List ℕ) (t : Told) → IsReport t bytes → t.head ≢ head → IsRightReport script packets head bytes → ⊥
other_head script packets head bytes t report differs r =
    let same : t ≡ r.told = only bytes t r.told report r.report in
    differs (ap (λ (u : Told). u.head) same ∙ r.same)

pub not_passed : (script : Scripted) (packets : List (List ℕ)) (head : StreamHead) (bytes : List ℕ) (t : Told) → IsReport t bytes → IsScript script
    → (HasPassed script packets t → ⊥) → IsRightReport script packets head bytes → ⊥
not_passed script packets head bytes t report known never r =
    let same : r.told ≡ t = only bytes r.told t r.report report in
    let run : IsRunOf script packets t.outcomes (completed t) = subst (λ (u : Told). IsRunOf script packets u.outcomes (completed u)) same r.run in
    never (passes script packets t known report.range.parts.nodes report.order.nodes run)

-- ------ what is asked of the nodes before they are played

sound_each : (clients packets : ℕ) (counts : List ℕ) (others : List LogEntry) (ns : List ToldNode) → All (IsSoundNode clients packets counts others) ns → All (λ n. are_sound clients packets counts n.entries ≡ true) ns
sound_each clients packets counts others [] all = All-nil (λ (n : ToldNode). are_sound clients packets counts n.entries ≡ true)
sound_each clients packets counts others (n ∷ ns) all =
    All-cons (λ (m : ToldNode). are_sound clients packets counts m.entries ≡ true) n ns (All-head (IsSoundNode clients packets counts others) n ns all).0
    (sound_each clients packets counts others ns (All-tail (IsSoundNode clients packets counts others) n ns all))

pub sound_all : (clients packets : ℕ) (counts : List ℕ) (ns : List ToldNode) → AreSoundNodes clients packets counts ns → All (λ n. are_sound clients packets counts n.entries ≡ true) ns
sound_all clients packets counts [] sound = All-nil (λ (n : ToldNode). are_sound clients packets counts n.entries ≡ true)
sound_all clients packets counts (n ∷ ns) sound = sound_each clients packets counts n.entries (n ∷ ns) sound.1

bounds_each : (ns : List ToldNode) → All IsNodeInRange ns → All (λ n. length n.entries < 2 ^ 50) ns → All (λ n. (n.node ≤ DEMUX_NODES) × (length n.entries < 2 ^ 50)) ns
bounds_each [] range few = All-nil (λ (n : ToldNode). (n.node ≤ DEMUX_NODES) × (length n.entries < 2 ^ 50))
bounds_each (n ∷ ns) range few =
    All-cons (λ (m : ToldNode). (m.node ≤ DEMUX_NODES) × (length m.entries < 2 ^ 50)) n ns
    ((All-head IsNodeInRange n ns range).node, All-head (λ (m : ToldNode). length m.entries < 2 ^ 50) n ns few)
    (bounds_each ns (All-tail IsNodeInRange n ns range) (All-tail (λ (m : ToldNode). length m.entries < 2 ^ 50) n ns few))

pub bounds : (t : Told) → IsInRange t → length (text_of t) < 2 ^ 46 → All (λ n. (n.node ≤ DEMUX_NODES) × (length n.entries < 2 ^ 50)) t.nodes
bounds t range few = bounds_each t.nodes range.parts.nodes (few_entries t few)

-- ------ calls that can be made again

module _ (stream : List (List ℕ)) (played : List (List (List ℕ))) where
  abbrev amounts : List ℕ
  amounts = map (λ ps. length ps) played

  -- so many packets there are
  count_is : (who : ℕ) (input : Input) → count_for (length stream) amounts who input ≡ length (brought_from stream played who input)
  count_is who Frontend = refl
  count_is who FromDvr = length_at played who

  can : (who : ℕ) (act : Act) → is_callable (length stream) amounts who act ≡ true → IsCallable (brought_from stream played who) act
  can who (ReadAct now count) e = grind (arith, nat_tests, e)
  can who (PassAct input batch now) e =
      let most : ℕ = count_for (length stream) amounts who input in
      let a = and_parts (nat_lt 0 batch.count) (nat_le batch.count 64 && nat_le (batch.first + batch.count) most) e in
      let b = and_parts (nat_le batch.count 64) (nat_le (batch.first + batch.count) most) a.1 in
      let some : 0 < batch.count = grind (arith, nat_tests, a.0) in
      let few : batch.count ≤ 64 = grind (arith, nat_tests, b.0) in
      let within : batch.first + batch.count ≤ most = grind (arith, nat_tests, b.1) in
      (some, few, omega (arith, within, count_is who input))
  can who _ e = tt

  pub can_all : (clients : ℕ) (es : List LogEntry) → are_sound clients (length stream) amounts es ≡ true → All (λ e. IsCallable (brought_from stream played e.who) e.act) es
  can_all clients [] sound = All-nil (λ (e : LogEntry). IsCallable (brought_from stream played e.who) e.act)
  can_all clients (e ∷ es) sound =
      let parts = and_parts (is_sound clients (length stream) amounts e) (are_sound clients (length stream) amounts es) sound in
      let here = and_parts (nat_le e.who clients) (is_callable (length stream) amounts e.who e.act) parts.0 in
      All-cons (λ (f : LogEntry). IsCallable (brought_from stream played f.who) f.act) e es (can e.who e.act here.1) (can_all clients es parts.1)
