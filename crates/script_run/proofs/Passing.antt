-- The passes of a client: each is of a write whose poll was Ready, and passes the nodes one after another.
use Rattle.script_run.proofs.Imports.{AllByRecursion, PlaysOf, Verb, any_first, verb_plays, command_of, IsSome, named_by, ◌≡◌, refl, sym, ap, ◌∙◌, ℕ, zero, suc, ◌+◌, ◌≤◌, Bool, true, false, nat_eq, List, [], ◌∷◌, ◌++◌, append-nil, Option, Some, None, length, map, filter, take, slice_get, arith, if◌then◌else◌, filter_map, unwrap_or, flat_map, cons_option, flat_map-append, map-append, take_all, filter-append, at_place, Packets, LogEntry, act_of, filled_act, fills, Response, Ready, Scripted, Line, CommandLine, Verb, Open, ClientCommand, Once, ReadWait, Drain, GetStc, Write, Event, ClientRequest, Own, Pass, Ending, Batches, batch_at, Slots, Doing, stands, through, done, call_of, commands_among, commands_of, pass_of, plays_of, slots_after, progress_from, no_slots, next_event, AreAsked, replies, sources, played_by, played_from, first_on, WritesPass, from_the_dvr, pass_in, pass_at, passes_on, exchanges, with_reply, exchanges_more, passed_by, passes_by, passes_behind, event_in, no_passes, first_passes, first_and_rest, by_calls, first, inl, inr, ◌⊎◌, progress, played_writes, writes_pass as client_passes}
use Rattle.script_run.proofs.Counting.{sum_of, weigh_append}
use Rattle.script_run.proofs.Events.{from_client}
use Rattle.script_run.proofs.Lists.{take_next}
use Rattle.script_run.proofs.OnNodes.{calls_on}
use Rattle.script_run.proofs.Repeating.{Asked, asked_by}

-- ------ along the calls of a client

-- the writes of a client whose batch has passed a node
abbrev pub passed_of : (node client : ℕ) → Scripted → List Response → List ℕ
passed_of node client script rs = passes_on node (exchanges client script rs)

-- one reply more
one_reply_on : (node client : ℕ) (script : Scripted) (rs : List Response) (r : Response) (e : Event) → next_event client script rs ≡ Some e
    → passed_of node client script (rs ++ r ∷ []) ≡ passed_of node client script rs ++ pass_at node e
one_reply_on node client script rs r e is =
    ap (passes_on node) (exchanges_more client script [] [] rs r ∙ ap (λ o. with_reply o r (exchanges client script rs)) is)

-- ------ the batches that are played

abbrev AreBatches : Batches → List ℕ → Type 0
AreBatches batches [] = Unit {0}
AreBatches batches (write ∷ writes) = IsSome (batch_at batches write) × AreBatches batches writes

module _ (batches : Batches) where
  -- where a command is said to have a batch, it is among these
  abbrev AreSaid : List ClientCommand → Type 0
  AreSaid cs = AllByRecursion (λ c. PlaysOf batches c.verb c.has_batch) cs

  are_said : (client : ℕ) (lines : List Line) → AreSaid (commands_among client batches lines)
  are_said client [] = tt
  are_said client (CommandLine line who target v ∷ lines) = go (nat_eq who client) (are_said client lines) where
    go : (b : Bool) → AreSaid (commands_among client batches lines) → AreSaid ((if b then command_of batches line target v ∷ [] else []) ++ commands_among client batches lines)
    go true later = (verb_plays batches v, later)
    go false later = later
  are_said client (_ ∷ lines) = are_said client lines

  on_batches : (on : ℕ) (v : Verb) (has : Bool) (rs : List Response) → PlaysOf batches v has → AreBatches batches (played_by (first_on on v has) rs)
  on_batches on (Write write) true (Ready a b c d ∷ rs) is = (is refl, tt)
  on_batches on (Write write) true [] is = tt
  on_batches on (Write write) true (_ ∷ rs) is = tt
  on_batches on (Write write) false rs is = tt
  on_batches on (Once w) has rs is = tt
  on_batches on (ReadWait count) has rs is = tt
  on_batches on (Drain count) has rs is = tt
  on_batches on (GetStc num) has rs is = tt

  in_batches : (slots : Slots) (c : ClientCommand) (rs : List Response) → PlaysOf batches c.verb c.has_batch → AreBatches batches (played_by (first slots c.target c.verb c.has_batch) rs)
  in_batches slots c rs is = any_first (λ n. AreBatches batches (played_by n rs)) slots c.target c.verb c.has_batch (λ on le. on_batches on c.verb c.has_batch rs is) (λ slot lt. tt) tt

  both_batches : (xs ys : List ℕ) → AreBatches batches xs → AreBatches batches ys → AreBatches batches (xs ++ ys)
  both_batches [] ys are also = also
  both_batches (x ∷ xs) ys are also = (are.0, both_batches xs ys are.1 also)

  from_batches : (slots : Slots) (step : ℕ) (cs : List ClientCommand) (rs : List Response) → AreSaid cs → AreBatches batches (played_from slots step cs rs)
  from_batches slots step [] rs are = tt
  from_batches slots step (c ∷ cs) rs are = go (λ ending next left. from_batches (slots_after ending slots) next cs left are.1) (done slots c.target c.verb c.has_batch step rs) where
    go : ((ending : Ending) (next : ℕ) (left : List Response) → AreBatches batches (played_from (slots_after ending slots) next cs left))
        → (d : Doing) → AreBatches batches (played_by (first slots c.target c.verb c.has_batch) rs ++ (elim d [ stands event ↦ [] | through ending next left ↦ played_from (slots_after ending slots) next cs left ]))
    go deeper (stands e) = both_batches (played_by (first slots c.target c.verb c.has_batch) rs) [] (in_batches slots c rs are.0) tt
    go deeper (through ending next left) =
        both_batches (played_by (first slots c.target c.verb c.has_batch) rs) (played_from (slots_after ending slots) next cs left) (in_batches slots c rs are.0) (deeper ending next left)

  -- the batch of a write, where it has one
  abbrev batch_of : ℕ → Packets
  batch_of write = unwrap_or (batch_at batches write) (record { first = 0; packets = [] })

  all_there : (writes : List ℕ) → AreBatches batches writes → map batch_of writes ≡ filter_map (batch_at batches) writes
  all_there [] are = refl
  all_there (write ∷ writes) are = go (batch_at batches write) are.0 (all_there writes are.1) where
    go : (o : Option Packets) → IsSome o → map batch_of writes ≡ filter_map (batch_at batches) writes
        → unwrap_or o (record { first = 0; packets = [] }) ∷ map batch_of writes ≡ cons_option o (filter_map (batch_at batches) writes)
    go (Some b) is deeper = ap (λ l. b ∷ l) deeper
    go None is deeper = absurd (cc is)

  pass_brings : (o : Option Packets) (moment : ℕ) → from_the_dvr (pass_of o moment) ≡ unwrap_or o (record { first = 0; packets = [] }) ∷ []
  pass_brings None moment = refl
  pass_brings (Some batch) moment = refl

  none_either : (b : Bool) → ◌≡◌ {A = List Packets} (if b then [] else []) (map batch_of (if b then [] else []))
  none_either true = refl
  none_either false = refl

  event_brings : (node at moment : ℕ) (w : ClientRequest) → (if nat_eq at node then from_the_dvr (call_of batches w moment) else []) ≡ map batch_of (if nat_eq at node then pass_in w else [])
  event_brings node at moment (Pass write) = go (nat_eq at node) where
    go : (b : Bool) → (if b then from_the_dvr (pass_of (batch_at batches write) moment) else []) ≡ map batch_of (if b then write ∷ [] else [])
    go true = pass_brings (batch_at batches write) moment
    go false = refl
  event_brings node at moment (Own Open) = none_either (nat_eq at node)
  event_brings node at moment _ = none_either (nat_eq at node)

played_batches : (client : ℕ) (script : Scripted) (rs : List Response) → AreBatches (plays_of client script) (played_writes client script rs)
unfolding played_writes
played_batches client script rs = from_batches (plays_of client script) no_slots 0 (commands_of client script) rs (are_said (plays_of client script) client script.lines)

-- ------ along a log

module _ (script : Scripted) (client : ℕ) (log : List LogEntry) (events : AreAsked script client log) (node : ℕ) where
  abbrev batches : Batches
  batches = plays_of client script

  -- the writes whose batch has passed the node after so many calls
  abbrev passed_after : ℕ → List ℕ
  passed_after n = passed_of node client script (replies (take n log))

  one_call_on : (n : ℕ) (e : LogEntry) → slice_get log n ≡ Some e → (a : Asked batches (next_event client script (replies (take n log))) e) → passed_after (suc n) ≡ passed_after n ++ pass_at node a.event
  one_call_on n e is a =
      let next : replies (take (suc n) log) ≡ replies (take n log) ++ e.response ∷ [] = ap replies (take_next log n e is) ∙ map-append (λ (x : LogEntry). x.response) (take n log) (e ∷ []) in
      ap (λ rs. passed_of node client script rs) next ∙ one_reply_on node client script (replies (take n log)) e.response a.event a.is

  -- The batches that the client brings the node.
  module _ (stream : List (List ℕ)) (own : (i : ℕ) (e : LogEntry) → slice_get log i ≡ Some e → e.who ≡ client + 1) where
    abbrev brought : LogEntry → List Packets
    brought e = from_the_dvr (filled_act (sources script stream e.who) e.act)

    abbrev brought_on : List LogEntry → List Packets
    brought_on es = flat_map brought (filter (λ e. nat_eq e.node node) es)

    one_on : (e : LogEntry) → brought_on (e ∷ []) ≡ (if nat_eq e.node node then brought e else [])
    one_on e = go (nat_eq e.node node) where
      go : (b : Bool) → flat_map brought (if b then e ∷ [] else []) ≡ (if b then brought e else [])
      go true = append-nil (brought e)
      go false = refl

    both_on : (xs ys : List LogEntry) → brought_on (xs ++ ys) ≡ brought_on xs ++ brought_on ys
    both_on xs ys =
        ap (flat_map brought) (filter-append (λ (e : LogEntry). nat_eq e.node node) xs ys)
        ∙ flat_map-append brought (filter (λ e. nat_eq e.node node) xs) (filter (λ e. nat_eq e.node node) ys)

    asks_for : (e : LogEntry) (w : ClientRequest) (moment : ℕ) → e.who ≡ client + 1 → e.act ≡ act_of (call_of batches w moment) → brought e ≡ from_the_dvr (call_of batches w moment)
    asks_for e w moment who act =
        ap (λ k. from_the_dvr (filled_act (sources script stream k) e.act)) who ∙ ap (λ c. from_the_dvr (filled_act (sources script stream (client + 1)) c)) act
        ∙ ap from_the_dvr (fills (sources script stream (client + 1)) (call_of batches w moment) (from_client script stream client w moment))

    told_to : (n : ℕ) → n ≤ length log → brought_on (take n log) ≡ map (batch_of batches) (passed_after n)
    told_to zero le = refl
    told_to (suc n) le =
        let x = at_place log n (omega (arith, le)) in
        let e : LogEntry = x.0 in
        let a : Asked batches (next_event client script (replies (take n log))) e = asked_by batches (next_event client script (replies (take n log))) e (events n e x.1) in
        ap brought_on (take_next log n e x.1) ∙ both_on (take n log) (e ∷ [])
        ∙ ap (λ l. l ++ brought_on (e ∷ [])) (told_to n (omega (arith, le)))
        ∙ ap (λ l. map (batch_of batches) (passed_after n) ++ l)
        (one_on e ∙ ap (λ k. if nat_eq k node then brought e else []) a.node
        ∙ ap (λ l. if nat_eq a.event.node node then l else []) (asks_for e a.event.want a.moment (own n e x.1) a.act)
        ∙ event_brings batches node a.event.node a.moment a.event.want)
        ∙ sym (map-append (batch_of batches) (passed_after n) (pass_at node a.event)) ∙ sym (ap (map (batch_of batches)) (one_call_on n e x.1 a))

    pub all_told : brought_on log ≡ map (batch_of batches) (passed_of node client script (replies log))
    all_told =
        let all : take (length log) log ≡ log = take_all (length log) log (omega arith) in
        ap brought_on (sym all) ∙ told_to (length log) (omega arith) ∙ ap (λ l. map (batch_of batches) (passed_of node client script (replies l))) all

  -- What the entries are worth is no more than what the writes are that have passed the node.
  worth_to : (value : LogEntry → ℕ) (worth : ℕ → ℕ) → ((e : LogEntry) (w : Event) (moment : ℕ) → e.node ≡ w.node → e.act ≡ act_of (call_of batches w.want moment) → value e ≤ sum_of worth (pass_at node w))
      → (n : ℕ) → n ≤ length log → sum_of value (take n log) ≤ sum_of worth (passed_after n)
  worth_to value worth each zero le = omega arith
  worth_to value worth each (suc n) le =
      let x = at_place log n (omega (arith, le)) in
      let e : LogEntry = x.0 in
      let a : Asked batches (next_event client script (replies (take n log))) e = asked_by batches (next_event client script (replies (take n log))) e (events n e x.1) in
      omega (
        arith,
        ap (sum_of value) (take_next log n e x.1),
        weigh_append value (take n log) (e ∷ []),
        worth_to value worth each n (omega (arith, le)),
        each e a.event a.moment a.node a.act,
        ap (sum_of worth) (one_call_on n e x.1 a),
        weigh_append worth (passed_after n) (pass_at node a.event),
      )

  pub worth_all : (value : LogEntry → ℕ) (worth : ℕ → ℕ) → ((e : LogEntry) (w : Event) (moment : ℕ) → e.node ≡ w.node → e.act ≡ act_of (call_of batches w.want moment) → value e ≤ sum_of worth (pass_at node w))
      → sum_of value log ≤ sum_of worth (passed_of node client script (replies log))
  worth_all value worth each =
      let all : take (length log) log ≡ log = take_all (length log) log (omega arith) in
      omega (arith, ap (sum_of value) all, worth_to value worth each (length log) (omega arith), ap (λ l. sum_of worth (passed_of node client script (replies l))) all)

-- ------ at most the writes of the commands have passed

module _ (node : ℕ) (worth : ℕ → ℕ) where
  own_worth : (v : Verb) (ws : List ℕ) → (ws ≡ []) ⊎ (ws ≡ named_by v) → sum_of worth ws ≤ sum_of worth (named_by v)
  own_worth v ws (inl none) = rw none (omega arith)
  own_worth v ws (inr all) = rw all (omega arith)

  all_worth : (slots : Slots) (step : ℕ) (cs : List ClientCommand) (rs : List Response) → sum_of worth (passes_by node (λ m. event_in (progress_from slots step cs m)) rs) ≤ sum_of (λ c. sum_of worth (named_by c.verb)) cs
  all_worth slots step [] rs = omega (arith, ap (sum_of worth) (no_passes node rs))
  all_worth slots step (c ∷ cs) rs =
      let ws : List ℕ = passed_by node (first slots c.target c.verb c.has_batch) step rs in
      let behind : List ℕ = passes_behind node slots cs (done slots c.target c.verb c.has_batch step rs) in
      omega (
        arith,
        ap (sum_of worth) (first_and_rest node slots step c cs rs),
        weigh_append worth ws behind,
        own_worth c.verb ws (first_passes node slots c.target c.verb c.has_batch step rs).0,
        go (λ ending next left. all_worth (slots_after ending slots) next cs left) (done slots c.target c.verb c.has_batch step rs),
      ) where
        go : ((ending : Ending) (next : ℕ) (left : List Response) → sum_of worth (passes_by node (λ m. event_in (progress_from (slots_after ending slots) next cs m)) left) ≤ sum_of (λ c. sum_of worth (named_by c.verb)) cs)
            → (d : Doing) → sum_of worth (passes_behind node slots cs d) ≤ sum_of (λ c. sum_of worth (named_by c.verb)) cs
        go deeper (stands e) = omega arith
        go deeper (through ending next left) = deeper ending next left

  pub passed_worth : (client : ℕ) (script : Scripted) (rs : List Response) → sum_of worth (passed_of node client script rs) ≤ sum_of (λ c. sum_of worth (named_by c.verb)) (commands_of client script)
  unfolding progress
  passed_worth client script rs = omega (arith, ap (sum_of worth) (by_calls node client script [] [] rs), all_worth no_slots 0 (commands_of client script) rs)

-- ------ the law

pub writes_pass : WritesPass
writes_pass script most stream hs run client is node h lt at =
    let d = run.clients_done client is in
    ap (flat_map (λ e. from_the_dvr (filled_act (sources script stream e.who) e.act)))
    (sym (calls_on script client hs d.made (λ n place g e there here. let p = run.places n place g e there here in (p.0, p.1)) node h at d.calls))
    ∙ all_told script client d.made d.calls.events node stream (λ i e here. (d.calls.steps i e here).1)
    ∙ ap (map (batch_of (plays_of client script))) (client_passes client script (replies d.made) node d.ends lt)
    ∙ all_there (plays_of client script) (played_writes client script (replies d.made)) (played_batches client script (replies d.made))
