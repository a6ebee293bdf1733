-- At each moment of a run, the commands and the bytes pay for the calls of a client: a repeat that follows bytes is paid for by
-- them, and a repeat that follows Again by the entry right behind the read, which is the feeder's or adds no repeat to its own client's.
use Rattle.script_run.proofs.Imports.{command_of, named_by, ◌≡◌, ◌≢◌, refl, sym, ap, subst, ◌∙◌, ℕ, zero, suc, ◌+◌, ◌*◌, ◌<◌, ◌≤◌, Bool, true, false, nat_eq, List, [], ◌∷◌, ◌++◌, Option, Some, None, length, filter, slice_get, inl, inr, arith, ◌⊎◌, if◌then◌else◌, All, nat_tests, All-weaker, slice_get_within, Has, at_place, one_value, has_at, IsPacket, Ebadf, LogEntry, Sources, act_of, filled_act, filled_entry, HasRead, Response, Refused, Line, Feed, Tick, Target, Verb, clients_in, Scripted, ClientCommand, Event, ClientRequest, Own, Pass, Open, Packets, packets_in, Batches, batch_at, call_of, commands_among, ends_drain, pass_of, played, plays_of, all_commands, bytes_in, most_calls, AreAsked, StandsIn, replies, sources, Payers, feeder, others, MayPay, IsPaidBehind, HasDoneSoFar, IsSoFar, commands_for, CallsArePaid, pass_in, pass_at, Command}
use Rattle.script_run.proofs.Lists.{has_filter}
use Rattle.script_run.proofs.Counting.{total, total_le, total_add, total_same, total_33, total_but, total_one, one_at, but, sum_of, Pool, both, all_pools, HaveTokens, counts_fit, weigh_places, weight_at, weight_got}
use Rattle.script_run.proofs.ReadReplies.{read_there, next_is_refused}
use Rattle.script_run.proofs.HistoryBytes.{bytes_fit, feeder_brings, feeder_long, packets_of}
use Rattle.script_run.proofs.Events.{all_packets, count_of}
use Rattle.script_run.proofs.Played.{all_few, named_once}
use Rattle.script_run.proofs.Passing.{passed_worth, worth_all}
use Rattle.script_run.proofs.Repeating.{adds, quiet, IsGoing, going, quiet_calls, grows, but_one, calls_and_repeats, by_bytes, by_again, both_kinds, bytes_pay, IsWaiting, waiting}

-- ------ the commands of all clients

abbrev commands_by : Scripted → (lines : List Line) → ℕ → ℕ
commands_by script lines c = length (commands_among c (plays_of c script) lines)

-- a line's command is one client's
one_command : (script : Scripted) (line who : ℕ) (target : Target) (verb : Verb) (lines : List Line) (c : ℕ) → commands_by script (Command line who target verb ∷ lines) c ≤ commands_by script lines c + one_at who c
one_command script line who target verb lines c = go (nat_eq who c) refl where
  one : ClientCommand
  one = command_of (plays_of c script) line target verb

  go : (b : Bool) → nat_eq who c ≡ b → length ((if b then one ∷ [] else []) ++ commands_among c (plays_of c script) lines) ≤ commands_by script lines c + one_at who c
  go true yea = let here : nat_eq c who ≡ true = grind (arith, nat_tests, yea) in rw here (omega arith)
  go false nay = omega arith

-- all clients have no more commands than the script
pub commands_shared : (script : Scripted) (lines : List Line) (n : ℕ) → total (commands_by script lines) n ≤ all_commands lines
commands_shared script [] n = omega (arith, total_same 0 n)
commands_shared script (Feed count ∷ lines) n = commands_shared script lines n
commands_shared script (Tick time ∷ lines) n = commands_shared script lines n
commands_shared script (Command line who target verb ∷ lines) n =
    omega (
      arith,
      total_le (commands_by script (Command line who target verb ∷ lines)) (λ c. commands_by script lines c + one_at who c) n (λ c lt. one_command script line who target verb lines c),
      total_add (commands_by script lines) (one_at who) n,
      total_one who n,
      commands_shared script lines n,
    )

-- the first calls of a client
abbrev firsts : Scripted → ℕ → ℕ
firsts script d = 33 * commands_by script script.lines d

-- ------ the packets that clients play

-- how many packets a write of a client has
abbrev write_size : Batches → (write : ℕ) → ℕ
write_size batches write = length (packets_in (batch_at batches write))

-- how many packets a client's writes in these lines have
abbrev pub plays_by : Scripted → (lines : List Line) → ℕ → ℕ
plays_by script lines c = sum_of (λ (x : ClientCommand). sum_of (write_size (plays_of c script)) (named_by x.verb)) (commands_among c (plays_of c script) lines)

-- how many packets a call on a node brings
abbrev brings_on : (node : ℕ) → LogEntry → ℕ
brings_on node e = if nat_eq e.node node then packets_of e else 0

brings_less : (node : ℕ) (e : LogEntry) → brings_on node e ≤ packets_of e
brings_less node e = go (nat_eq e.node node) where
  go : (b : Bool) → (if b then packets_of e else 0) ≤ packets_of e
  go true = omega arith
  go false = omega arith

pass_size : (o : Option Packets) (moment : ℕ) → count_of (act_of (pass_of o moment)) ≡ length (packets_in o)
pass_size None moment = refl
pass_size (Some batch) moment = refl

zero_either : (batches : Batches) (b : Bool) → (if b then 0 else 0) ≤ sum_of (write_size batches) (if b then [] else [])
zero_either batches true = omega arith
zero_either batches false = omega arith

asked_size : (batches : Batches) (node at moment : ℕ) (w : ClientRequest) → (if nat_eq at node then count_of (act_of (call_of batches w moment)) else 0) ≤ sum_of (write_size batches) (if nat_eq at node then pass_in w else [])
asked_size batches node at moment (Pass write) = go (nat_eq at node) where
  go : (b : Bool) → (if b then count_of (act_of (pass_of (batch_at batches write) moment)) else 0) ≤ sum_of (write_size batches) (if b then write ∷ [] else [])
  go true = omega (arith, pass_size (batch_at batches write) moment)
  go false = omega arith
asked_size batches node at moment (Own Open) = zero_either batches (nat_eq at node)
asked_size batches node at moment _ = zero_either batches (nat_eq at node)

event_size : (batches : Batches) (node : ℕ) (e : LogEntry) (w : Event) (moment : ℕ) → e.node ≡ w.node → e.act ≡ act_of (call_of batches w.want moment) → brings_on node e ≤ sum_of (write_size batches) (pass_at node w)
event_size batches node e w moment on is =
    omega (
      arith,
      asked_size batches node w.node moment w.want,
      ap (λ k. if nat_eq k node then count_of e.act else 0) on,
      ap (λ a. if nat_eq w.node node then count_of a else 0) is,
    )

-- ------ one call

-- a refused read ends a drain
not_refused : (r : Response) → ends_drain r ≡ false → r ≢ Refused Ebadf
not_refused r goes_on is = (let k : ends_drain (Refused Ebadf) ≡ false = sym (ap ends_drain is) ∙ goes_on in absurd (cc k))

reads_on : (packets : Sources) (e : LogEntry) → IsGoing e.act e.response → HasRead e.who (filled_entry packets e)
reads_on packets e g = record { by = refl; read = (g.now, g.count, ap (filled_act (packets e.who)) g.read); response = not_refused e.response g.goes_on }

pays_not_itself : (payers : Payers) (client who : ℕ) → MayPay payers client who → who ≢ client + 1
pays_not_itself feeder client who is same = absurd (omega (arith, is, same))
pays_not_itself others client who is same = is same

module _ (payers : Payers) (script : Scripted) (most : ℕ) (stream : List (List ℕ)) (hs : List (List LogEntry)) (s : IsSoFar payers script most stream hs) where
  -- ------ the entries of a client

  -- an entry that isn't the feeder's is one of a client's calls
  record IsMade (e : LogEntry) : Type 0 where
    client : ℕ
    low : client < clients_in script
    who : e.who ≡ client + 1
    made : (is : client < clients_in script) → slice_get (s.clients client is).made e.step ≡ Some e

  made_by : (e : LogEntry) → StandsIn hs e → e.who ≢ 0 → IsMade e
  made_by e (h, log, at) not = go e.who refl where
    go : (n : ℕ) → e.who ≡ n → IsMade e
    go zero is = absurd (not is)
    go (suc d) is =
        let low : d < clients_in script = omega (arith, is, (s.places e.node e.place h e log at).2) in
        let who : e.who ≡ d + 1 = omega (arith, is) in
        record { client = d; low = low; who = who; made = λ is. (s.clients d is).calls.only e.node e.place h e log at who }

  -- the entry at a place of a node's history stands in the histories
  stands_at : (node : ℕ) (h : List LogEntry) → slice_get hs node ≡ Some h → (i : ℕ) (e : LogEntry) → slice_get h i ≡ Some e → StandsIn hs e
  stands_at node h log i e at =
      let p = s.places node i h e log at in
      (h, (ap (λ n. slice_get hs n) p.0 ∙ log), (ap (λ n. slice_get h n) p.1 ∙ at))

  node_below : (e : LogEntry) → StandsIn hs e → e.node < 33
  node_below e (h, log, at) = omega (arith, slice_get_within hs e.node h log, s.nodes)

  -- ------ what the nodes give and the feeder makes

  abbrev StandsOn : (node : ℕ) → LogEntry → Type 0
  StandsOn node e = (h : List LogEntry) × (slice_get hs node ≡ Some h) × Has h e

  stands_on : (e : LogEntry) → StandsIn hs e → (node : ℕ) × (node < 33) × StandsOn node e
  stands_on e stands = (e.node, node_below e stands, (stands.0, stands.1, has_at stands.0 e e.place stands.2))

  -- the bytes of an entry
  abbrev bytes_of : LogEntry → ℕ
  bytes_of e = bytes_in e.response

  -- ------ what clients play

  -- an entry of a client
  abbrev IsClients : (client : ℕ) → LogEntry → Type 0
  IsClients client e = (low : client < clients_in script) → Has (s.clients client low).made e

  -- no more packets stand behind a client's entries on a node than its writes have
  client_brings : (node client : ℕ) → client < clients_in script → Pool (brings_on node) (IsClients client) (plays_by script script.lines client)
  client_brings node client low =
      let batches : Batches = plays_of client script in
      let made : List LogEntry = (s.clients client low).made in
      record {
        tokens = made;
        within = omega (
          arith,
          worth_all script client made (s.clients client low).calls.events node (brings_on node) (write_size batches) (event_size batches node),
          passed_worth node (write_size batches) client script (replies made),
        );
        all = λ t is. is low;
      }

  abbrev SomeClients : LogEntry → Type 0
  SomeClients e = (client : ℕ) × (client < clients_in script) × IsClients client e

  clients_bring : (node : ℕ) → Pool (brings_on node) SomeClients (total (plays_by script script.lines) (clients_in script))
  clients_bring node = all_pools (brings_on node) IsClients (plays_by script script.lines) (clients_in script) (client_brings node)

  -- those of the feeder
  feeders_bring : (node : ℕ) (h : List LogEntry) → slice_get hs node ≡ Some h → Pool (brings_on node) (λ e. Has h e × (e.who ≡ 0)) (length stream)
  feeders_bring node h log = record {
    tokens = filter (λ e. nat_eq e.who 0) h;
    within = omega (arith, all_less node (filter (λ e. nat_eq e.who 0) h), feeder_brings h s.fed.batches (s.fed.on_each node h log), s.fed.within);
    all = λ t is. has_filter (λ e. nat_eq e.who 0) h t (grind (arith, nat_tests, is.1)) is.0;
  } where
    all_less : (node : ℕ) (es : List LogEntry) → sum_of (brings_on node) es ≤ sum_of packets_of es
    all_less node [] = omega arith
    all_less node (e ∷ es) = omega (arith, brings_less node e, all_less node es)

  -- the packets that pass a node
  abbrev pub most_packets : ℕ
  most_packets = length stream + total (plays_by script script.lines) (clients_in script)

  abbrev IsOfEither : List LogEntry → LogEntry → Type 0
  IsOfEither h e = (Has h e × (e.who ≡ 0)) ⊎ SomeClients e

  node_brings : (node : ℕ) (h : List LogEntry) → slice_get hs node ≡ Some h → sum_of packets_of h ≤ most_packets
  node_brings node h log = omega (arith, on_node h (λ i e at. (s.places node i h e log at).0), weigh_places (brings_on node) h, counts_fit (brings_on node) (length h) (weight_at (brings_on node) h) (λ i t. slice_get h i ≡ Some t) pool.tokens tokens, pool.within) where
    pool : Pool (brings_on node) (IsOfEither h) most_packets
    pool = both (brings_on node) (λ e. Has h e × (e.who ≡ 0)) SomeClients (length stream) (total (plays_by script script.lines) (clients_in script)) (feeders_bring node h log) (clients_bring node)

    on_node : (es : List LogEntry) → ((i : ℕ) (e : LogEntry) → slice_get es i ≡ Some e → e.node ≡ node) → sum_of packets_of es ≤ sum_of (brings_on node) es
    on_node [] each = omega arith
    on_node (e ∷ es) each =
        let here : nat_eq e.node node ≡ true = (let same : e.node ≡ node = each 0 e refl in grind (arith, nat_tests, same)) in
        let one : brings_on node e ≡ packets_of e = ap (λ b. if b then packets_of e else 0) here in
        omega (arith, one, on_node es (λ i x at. each (suc i) x at))

    kind : (e : LogEntry) → StandsIn hs e → Has h e → (b : Bool) → nat_eq e.who 0 ≡ b → IsOfEither h e
    kind e stands has true yea = inl (has, grind (arith, nat_tests, yea))
    kind e stands has false nay =
        let m : IsMade e = made_by e stands (λ none. grind (arith, nat_tests, nay, none)) in
        inr (m.client, m.low, (λ low. has_at (s.clients m.client low).made e e.step (m.made low)))

    there : (i : ℕ) → i < length h → (t : LogEntry) × Has pool.tokens t × (weight_at (brings_on node) h i ≤ brings_on node t) × (slice_get h i ≡ Some t)
    there i lt =
        let x = at_place h i lt in
        (x.0, pool.all x.0 (kind x.0 (stands_at node h log i x.0 x.1) (has_at h x.0 i x.1) (nat_eq x.0.who 0) refl), omega (arith, weight_got (brings_on node) h i x.0 x.1), x.1)

    twice : (i j : ℕ) (t : LogEntry) → i < j → slice_get h i ≡ Some t → slice_get h j ≡ Some t → ⊥
    twice i j t less a b = omega (arith, less, (s.places node i h t log a).1, (s.places node j h t log b).1)

    tokens : HaveTokens (brings_on node) (length h) (weight_at (brings_on node) h) (λ i t. slice_get h i ≡ Some t) pool.tokens
    tokens = record { differ = λ i j t less lt a b. twice i j t less a b; has = λ i lt more. there i lt }

  module _ (are : All IsPacket stream) where
    bytes_at : (node : ℕ) → node < 33 → Pool bytes_of (StandsOn node) (188 * most_packets)
    bytes_at node lt =
        let h = at_place hs node (omega (arith, lt, s.nodes)) in
        record {
          tokens = h.0;
          within = bytes_fit (sources script stream) (all_packets script stream are) node h.0 most_packets (s.legal node h.0 h.1) (node_brings node h.0 h.1);
          all = λ t is. subst (λ l. Has l t) (one_value hs node is.0 h.0 is.1 h.1) is.2;
        }

    all_bytes : Pool bytes_of (λ t. (node : ℕ) × (node < 33) × StandsOn node t) (total (λ node. 188 * most_packets) 33)
    all_bytes = all_pools bytes_of StandsOn (λ node. 188 * most_packets) 33 bytes_at

  abbrev is_feeder : LogEntry → Bool
  is_feeder e = nat_eq e.who 0

  few_quiet : (es : List LogEntry) → sum_of quiet es ≤ length es
  few_quiet [] = omega arith
  few_quiet (e ∷ es) = omega (arith, few_quiet es)

  -- an entry of the feeder on a node
  abbrev IsFeeders : (node : ℕ) → LogEntry → Type 0
  IsFeeders node e = StandsOn node e × (e.who ≡ 0)

  feeder_at : (node : ℕ) → node < 33 → Pool quiet (IsFeeders node) (length stream + 1)
  feeder_at node lt =
      let h = at_place hs node (omega (arith, lt, s.nodes)) in
      record {
        tokens = filter is_feeder h.0;
        within = omega (
          arith,
          few_quiet (filter is_feeder h.0),
          feeder_long h.0 s.fed.batches (All-weaker (λ b. (1 ≤ b.size) × (b.size ≤ most)) (λ b. 1 ≤ b.size) (λ b is. is.0) s.fed.batches s.fed.each_size) (s.fed.on_each node h.0 h.1),
          s.fed.within,
        );
        all = λ t is. has_filter is_feeder h.0 t (grind (arith, nat_tests, is.1)) (subst (λ l. Has l t) (one_value hs node is.0.0 h.0 is.0.1 h.1) is.0.2);
      }

  abbrev FeederPays : LogEntry → Type 0
  FeederPays e = (node : ℕ) × (node < 33) × IsFeeders node e

  feeder_pool : Pool quiet FeederPays (total (λ node. length stream + 1) 33)
  feeder_pool = all_pools quiet IsFeeders (λ node. length stream + 1) 33 feeder_at

  -- ------ what other clients make

  module _ (c : ℕ) (is : c < clients_in script) where
    abbrev me : HasDoneSoFar payers script c hs
    me = s.clients c is

    abbrev ClientPays : ℕ → LogEntry → Type 0
    ClientPays d e = (d ≢ c) × ((low : d < clients_in script) → Has (s.clients d low).made e)

    abbrev OtherPays : LogEntry → Type 0
    OtherPays e = (d : ℕ) × (d < clients_in script) × ClientPays d e

    abbrev events : (d : ℕ) (low : d < clients_in script) → AreAsked script d (s.clients d low).made
    events d low = (s.clients d low).calls.events

    client_at : (d : ℕ) → d < clients_in script → (same : Bool) → nat_eq d c ≡ same → Pool quiet (ClientPays d) (if same then 0 else firsts script d)
    client_at d low true yea = record { tokens = []; within = omega arith; all = λ t pays. absurd (pays.0 (grind (arith, nat_tests, yea))) }
    client_at d low false nay = record {
      tokens = (s.clients d low).made;
      within = quiet_calls script d (s.clients d low).made (events d low);
      all = λ t pays. pays.1 low;
    }

    other_pool : Pool quiet OtherPays (total (but c (firsts script)) (clients_in script))
    other_pool = all_pools quiet ClientPays (but c (firsts script)) (clients_in script) (λ d low. client_at d low (nat_eq d c) refl)

    -- ------ the entry behind a read

    -- right behind a read of the client an entry of another adds no repeat
    quiet_behind : (e x : LogEntry) → StandsIn hs e → StandsIn hs x → x.node ≡ e.node → x.place ≡ e.place + 1 → e.who ≢ x.who → IsGoing e.act e.response → (n : ℕ) → adds x ≡ n → quiet x ≡ 1
    quiet_behind e x es xs node place differ on zero none = omega (arith, none)
    quiet_behind e x es xs node place differ on (suc n) more =
        let there : slice_get hs e.node ≡ Some xs.0 = ap (λ k. slice_get hs k) (sym node) ∙ xs.1 in
        let one : xs.0 ≡ es.0 = one_value hs e.node xs.0 es.0 there es.1 in
        let next : x.place ≡ suc e.place = omega (arith, place) in
        absurd (
        next_is_refused e.node (sources script stream) es.0 (s.legal e.node es.0 es.1) e.place e x es.2 (subst (λ l. slice_get l (suc e.place) ≡ Some x) one (ap (λ k. slice_get xs.0 k) (sym next) ∙ xs.2)) differ
        (reads_on (sources script stream) e on) (reads_on (sources script stream) x (going x.act x.response (omega (arith, more))))
        )

    abbrev my_bytes : ℕ → ℕ
    my_bytes i = by_bytes script c me.made (events c is) i

    abbrev my_again : ℕ → ℕ
    my_again i = by_again script c me.made (events c is) i

    -- ------ bytes

    bytes_count : All IsPacket stream → (k : ℕ) → k ≤ length me.made → total my_bytes k ≤ 33 * (188 * most_packets)
    bytes_count are k le = omega (arith, counts_fit bytes_of k my_bytes (λ i t. slice_get me.made i ≡ Some t) (all_bytes are).tokens tokens, (all_bytes are).within, total_same (188 * most_packets) 33) where
      twice : (i j : ℕ) (t : LogEntry) → i < j → slice_get me.made i ≡ Some t → slice_get me.made j ≡ Some t → ⊥
      twice i j t less a b = let up = me.calls.in_order i j t t less a b refl in omega (arith, up)

      there : (i : ℕ) (e : LogEntry) → slice_get me.made i ≡ Some e → 0 < my_bytes i → (t : LogEntry) × Has (all_bytes are).tokens t × (my_bytes i ≤ bytes_of t) × (slice_get me.made i ≡ Some t)
      there i e at more =
          let stands = me.calls.stands i e at in (
            e,
            (all_bytes are).all e (stands_on e stands),
            bytes_pay script c me.made (events c is) i e at (λ now count read. read_there e.node (sources script stream) stands.0 (s.legal e.node stands.0 stands.1) e.place e now count stands.2 read) more,
            at,
          )

      tokens : HaveTokens bytes_of k my_bytes (λ i t. slice_get me.made i ≡ Some t) (all_bytes are).tokens
      tokens = record {
        differ = λ i j t less lt a b. twice i j t less a b;
        has = λ i lt more. (let e = at_place me.made i (omega (arith, lt, le)) in there i e.0 e.1 more);
      }

    -- ------ repeats after Again

    -- an entry that pays stands right behind call i
    abbrev IsBehind : ℕ → LogEntry → Type 0
    IsBehind i x = (e : LogEntry) × (slice_get me.made i ≡ Some e) × (x.node ≡ e.node) × (x.place ≡ e.place + 1)

    behind_one : (i j : ℕ) (t : LogEntry) → i < j → IsBehind i t → IsBehind j t → ⊥
    behind_one i j t less (e, at, node, place) (f, at_f, node_f, place_f) = let up = me.calls.in_order i j e f less at at_f (sym node ∙ node_f) in omega (arith, up, place, place_f)

    module _ (Pays : LogEntry → Type 0) (bound : ℕ) (pool : Pool quiet Pays bound) (pays : (x : LogEntry) → StandsIn hs x → MayPay payers c x.who → Pays x) where
      again_there : (i : ℕ) (e f : LogEntry) → slice_get me.made i ≡ Some e → slice_get me.made (suc i) ≡ Some f → 0 < my_again i → (x : LogEntry) × Has pool.tokens x × (my_again i ≤ quiet x) × IsBehind i x
      again_there i e f at next more =
          let w : IsWaiting script c me.made (events c is) i e = waiting script c me.made (events c is) i e at more in
          go w (me.paid i e f at next (w.stays f next) w.waits) where
            go : IsWaiting script c me.made (events c is) i e → IsPaidBehind payers c hs e → (x : LogEntry) × Has pool.tokens x × (my_again i ≤ quiet x) × IsBehind i x
            go w (x, stands, node, place, may) =
                let mine : e.who ≡ c + 1 = (me.calls.steps i e at).1 in
                let differ : e.who ≢ x.who = λ same. pays_not_itself payers c x.who may (sym same ∙ mine) in
                let silent : quiet x ≡ 1 = quiet_behind e x (me.calls.stands i e at) stands node place differ w.going (adds x) refl in
                (x, pool.all x (pays x stands may), omega (arith, silent, w.once), (e, at, node, place))

      again_count : (k : ℕ) → suc k ≤ length me.made → total my_again k ≤ bound
      again_count k le = omega (arith, counts_fit quiet k my_again IsBehind pool.tokens tokens, pool.within) where
        tokens : HaveTokens quiet k my_again IsBehind pool.tokens
        tokens = record {
          differ = λ i j t less lt a b. behind_one i j t less a b;
          has = λ i lt more. (let e = at_place me.made i (omega (arith, lt, le)) in let f = at_place me.made (suc i) (omega (arith, lt, le)) in again_there i e.0 f.0 e.1 f.1 more);
        }

      -- ------ the bound

      within_to : firsts script c + bound ≤ 33 * commands_for payers c script + 33 * (length stream + 1) → All IsPacket stream → (n : ℕ) → length me.made ≡ n
          → length me.made ≤ firsts script c + total (grows script c me.made (events c is)) (but_one script c me.made (events c is) n) → length me.made ≤ most_calls (commands_for payers c script) (188 * most_packets)
      within_to enough are zero long few = omega (arith, long)
      within_to enough are (suc k) long few = omega (arith, few, both_kinds script c me.made (events c is) k, bytes_count are k (omega (arith, long)), again_count k (omega (arith, long)), enough)

      pub within : firsts script c + bound ≤ 33 * commands_for payers c script + 33 * (length stream + 1) → All IsPacket stream → length me.made ≤ most_calls (commands_for payers c script) (188 * most_packets)
      within enough are = within_to enough are (length me.made) refl (calls_and_repeats script c me.made (events c is))

    feeders : (x : LogEntry) → StandsIn hs x → x.who ≡ 0 → FeederPays x
    feeders x stands zero_is = let on = stands_on x stands in (on.0, on.1, (on.2, zero_is))

    either : (x : LogEntry) → StandsIn hs x → x.who ≢ c + 1 → (b : Bool) → nat_eq x.who 0 ≡ b → FeederPays x ⊎ OtherPays x
    either x stands may true yea = inl (feeders x stands (grind (arith, nat_tests, yea)))
    either x stands may false nay =
        let m : IsMade x = made_by x stands (λ none. grind (arith, nat_tests, nay, none)) in
        inr (m.client, m.low, ((λ same. may (m.who ∙ ap (λ n. n + 1) same)), (λ low. has_at (s.clients m.client low).made x x.step (m.made low))))

-- Whatever writes the lines name, the packets pay that they complete.
pub calls_are_bounded : (payers : Payers) (script : Scripted) (most : ℕ) (stream : List (List ℕ)) (hs : List (List LogEntry)) (s : IsSoFar payers script most stream hs) → All IsPacket stream
    → (c : ℕ) (is : c < clients_in script)
    → length (s.clients c is).made ≤ most_calls (commands_for payers c script) (188 * (length stream + total (plays_by script script.lines) (clients_in script)))
calls_are_bounded feeder script most stream hs s are c is =
    within feeder script most stream hs s c is (FeederPays feeder script most stream hs s) (total (λ node. length stream + 1) 33) (feeder_pool feeder script most stream hs s)
    (feeders feeder script most stream hs s c is) (omega (arith, total_same (length stream + 1) 33)) are
calls_are_bounded others script most stream hs s are c is =
    within others script most stream hs s c is (λ x. FeederPays others script most stream hs s x ⊎ OtherPays others script most stream hs s c is x)
    (total (λ node. length stream + 1) 33 + total (but c (firsts script)) (clients_in script))
    (both quiet (FeederPays others script most stream hs s) (OtherPays others script most stream hs s c is) (total (λ node. length stream + 1) 33) (total (but c (firsts script)) (clients_in script))
    (feeder_pool others script most stream hs s) (other_pool others script most stream hs s c is))
    (λ x stands may. either others script most stream hs s c is x stands may (nat_eq x.who 0) refl)
    (omega (
      arith,
      total_same (length stream + 1) 33,
      total_but c (firsts script) (clients_in script) is,
      total_33 (commands_by script script.lines) (clients_in script),
      commands_shared script script.lines (clients_in script),
    )) are

pub calls_are_paid : CallsArePaid
calls_are_paid payers script most stream hs s numbered are c is =
    omega (
      arith,
      calls_are_bounded payers script most stream hs s are c is,
      total_le (plays_by script script.lines) (λ d. length (played d script)) (clients_in script) (λ d lt. (let same : plays_by script script.lines d ≡ length (played d script) = named_once d script (numbered d) in omega (arith, same))),
      all_few script (clients_in script),
    )
