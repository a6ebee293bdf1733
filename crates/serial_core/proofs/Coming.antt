-- Wherever the serial run of a script has come: its nodes, its feeder and its clients.
use Rattle.serial_core.proofs.Imports.{◌≡◌, ◌≢◌, refl, sym, ap, subst, ◌∙◌, ℕ, ◌+◌, ◌<◌, ◌≤◌, Bool, true, false, nat_eq, List, [], ◌∷◌, ◌++◌, Option, Some, None, length, length-append, take, drop, min, ◌⊎◌, inl, inr, arith, length-take-le, length-drop, IsSome, is_some, if◌then◌else◌, slice_get, slice_index_or, All, nat_tests, length-map, length-set, get_or-set_same, get_or-set_other, drop-drop, All-nil, get_or-map-range_with_len, at_last, DEMUX_NODES, Frontend, Invocation, Response, Again, is_accepted, entry_of, rules_at, passing, IsFrom, LogEntry, act_of, IsInRange, Scripted, Event, Batches, call_of, plays_of, Standing, progress, next_event, waits_after, waits_on, sources, steps_of, last_counts, next_is_numbered, same_some, from_client, by_caller, Node, uncalled, history_of, answer_by, answered, Run, begun, fed_to_all, passed, ended, turned, ticked, node_at, replies_of, reply_to, called, after_waiting, IsSerialRun, IsMoment, has_ended}
use Rattle.dmx_calls.specs.Invocation as call
use Rattle.serial_core.proofs.Answering.{end_answer, end_stays, ends, no_end}
use Rattle.serial_core.proofs.Logs.{fed_at, called_at, IsCalledAt, entries_of, entries_at, entry_for, entries_answered}
use Rattle.serial_core.proofs.Sound.{IsSound, answer_open, sound_answered}
use Rattle.serial_core.proofs.Making.{IsOpenBehind, Waits, AreMade, others_made, mine_made}
use Rattle.serial_core.proofs.Feeding.{AreFed, fed_pass, fed_end, fed_other, none_fed}
use Rattle.serial_core.proofs.Keeping.{AreBelow, IsKept, OnlyWaits, kept, kept_moment, waiting_replies}
use Rattle.serial_core.proofs.Replies.{none_said}

-- ------ the end of the stream

-- after End the stream has ended
pub ended_over : (r : Run) → (ended r).has_ended ≡ true
ended_over r = go r.has_ended refl where
  go : (b : Bool) → r.has_ended ≡ b → (if b then r else record (fed_to_all call.End r) { has_ended = true }).has_ended ≡ true
  go true is = is
  go false is = refl

-- a client waits only after Again
after_again : (s : Option Standing) (r : Response) → IsSome (waits_after s (r ∷ [])) → r ≡ Again false
after_again None r is = absurd (cc is)
after_again (Some s) (Again false) is = refl
after_again (Some s) _ is = absurd (cc is)

-- ------ steps

module _ (script : Scripted) (batch : ℕ) (packets : List (List ℕ)) (clients : ℕ) (few : clients ≤ 8) (ranges : All IsInRange script.lines) where
  -- what holds wherever the run has come
  pub record HasCome (r : Run) : Type 0 where
    pub nodes : length r.nodes ≡ DEMUX_NODES + 1
    pub eight : length r.replies ≡ 8
    pub left : r.left ≡ drop r.first packets
    pub first : r.first + length r.left ≡ length packets
    pub ended : r.has_ended ≡ true → length r.left ≡ 0
    pub sound : (node : ℕ) → node ≤ DEMUX_NODES → IsSound (sources script packets) clients r.has_ended node (node_at node r)
    pub fed : AreFed batch (λ node. entries_at node r) r.turns r.first r.has_ended
    pub made : (client : ℕ) → client < clients → AreMade script client (λ node. entries_at node r) r.has_ended (replies_of client r)
    pub silent : (client : ℕ) → clients ≤ client → replies_of client r ≡ []

  -- a call of the feeder
  fed_entries : (node : ℕ) (c : Invocation) (r : Run) → length r.nodes ≡ DEMUX_NODES + 1 → node ≤ DEMUX_NODES → entries_at node (fed_to_all c r) ≡ entries_at node r ++ entry_for 0 r.turns c (node_at node r) ∷ []
  fed_entries node c r long le = ap entries_of (fed_at node c r long le) ∙ entries_answered 0 r.turns c (node_at node r)

  fed_sound : (over : Bool) (node : ℕ) (c : Invocation) (r : Run) → length r.nodes ≡ DEMUX_NODES + 1 → node ≤ DEMUX_NODES → IsFrom (sources script packets 0) c
      → (has_ended (entry_of 0 c (answer_by 0 c (node_at node r)) ∷ history_of (node_at node r)) ≡ over) → IsSound (sources script packets) clients r.has_ended node (node_at node r)
      → IsSound (sources script packets) clients over node (node_at node (fed_to_all c r))
  fed_sound over node c r long le of is s =
      subst (IsSound (sources script packets) clients over node) (sym (fed_at node c r long le)) (sound_answered (sources script packets) clients r.has_ended over node (node_at node r) 0 r.turns c (omega arith) of is s)

  fed_made : (over : Bool) (client : ℕ) (c : Invocation) (r : Run) → length r.nodes ≡ DEMUX_NODES + 1 → AreMade script client (λ node. entries_at node r) r.has_ended (replies_of client r)
      → AreMade script client (λ node. entries_at node (fed_to_all c r)) over (replies_of client r)
  fed_made over client c r long m =
      others_made script client (λ node. entries_at node r) (λ node. entries_at node (fed_to_all c r)) r.has_ended over (replies_of client r)
      (λ node le. inr (entry_for 0 r.turns c (node_at node r), fed_entries node c r long le, λ same. absurd (omega (arith, same))))
      (λ e le waits unended. (
        entry_for 0 r.turns c (node_at e.node r),
        subst (λ h. slice_get h (e.place + 1) ≡ Some (entry_for 0 r.turns c (node_at e.node r))) (sym (fed_entries e.node c r long le))
            (subst (λ n. slice_get (entries_at e.node r ++ entry_for 0 r.turns c (node_at e.node r) ∷ []) n ≡ Some (entry_for 0 r.turns c (node_at e.node r))) unended.1 (at_last (entries_at e.node r) (entry_for 0 r.turns c (node_at e.node r)))),
        refl,
      ))
      m

  not_ended : (r : Run) → HasCome r → 1 ≤ length r.left → r.has_ended ≡ false
  not_ended r p some = go r.has_ended refl where
    go : (b : Bool) → r.has_ended ≡ b → r.has_ended ≡ false
    go true is = absurd (omega (arith, some, p.ended is))
    go false is = is

  pass_keeps : (r : Run) (size : ℕ) → 1 ≤ size → size ≤ batch → size ≤ length r.left → HasCome r → HasCome (passed r size)
  pass_keeps r size some within fits p =
      let c : Invocation = call.Pass Frontend r.first (take size r.left) r.moment in
      let long : length (take size r.left) ≡ size = length-take-le size r.left fits in
      let unended : r.has_ended ≡ false = not_ended r p (omega (arith, some, fits)) in
      let of : take size r.left ≡ take (length (take size r.left)) (drop r.first packets) = ap (take size) p.left ∙ ap (λ n. take n (drop r.first packets)) (sym long) in
      let before : AreFed batch (λ node. entries_at node r) r.turns r.first false = subst (λ b. AreFed batch (λ node. entries_at node r) r.turns r.first b) unended p.fed in
      record {
        nodes = length-map r.nodes (answered 0 r.turns c) ∙ p.nodes;
        eight = p.eight;
        left = ap (drop size) p.left ∙ drop-drop size r.first packets;
        first = omega (arith, p.first, length-drop size r.left, fits);
        ended = λ is. omega (arith, p.ended is, length-drop size r.left);
        sound = λ node le. let s = p.sound node le in fed_sound r.has_ended node c r p.nodes le of (end_stays 0 c (answer_by 0 c (node_at node r)) (history_of (node_at node r)) refl ∙ s.ended) s;
        fed = subst (λ b. AreFed batch (λ node. entries_at node (fed_to_all c r)) (r.turns + 1) (r.first + size) b) (sym unended)
            (fed_pass batch (λ node. entries_at node r) (λ node. entries_at node (fed_to_all c r)) r.turns r.first size r.moment some within before
            (λ node le. (entry_for 0 r.turns c (node_at node r), fed_entries node c r p.nodes le, refl, refl, ap (λ n. passing Frontend r.first n r.moment) long)));
        made = λ client lt. fed_made r.has_ended client c r p.nodes (p.made client lt);
        silent = p.silent;
      }

  end_keeps : (r : Run) → length r.left ≡ 0 → r.has_ended ≡ false → HasCome r → HasCome (record (fed_to_all call.End r) { has_ended = true })
  end_keeps r none unended p =
      let before : AreFed batch (λ node. entries_at node r) r.turns r.first false = subst (λ b. AreFed batch (λ node. entries_at node r) r.turns r.first b) unended p.fed in
      record {
        nodes = length-map r.nodes (answered 0 r.turns call.End) ∙ p.nodes;
        eight = p.eight;
        left = p.left;
        first = p.first;
        ended = λ is. none;
        sound = λ node le. let n = node_at node r in
            fed_sound true node call.End r p.nodes le tt (ends 0 (answer_by 0 call.End n) (history_of n) (ap is_accepted (end_answer (rules_at n.number) (history_of n) 0))) (p.sound node le);
        fed = fed_end batch (λ node. entries_at node r) (λ node. entries_at node (fed_to_all call.End r)) r.turns r.first before
            (λ node le. (entry_for 0 r.turns call.End (node_at node r), fed_entries node call.End r p.nodes le, refl, refl, refl));
        made = λ client lt. fed_made true client call.End r p.nodes (p.made client lt);
        silent = p.silent;
      }

  tick_keeps : (r : Run) (time : ℕ) → HasCome r → HasCome (ticked time r)
  tick_keeps r time p = record { nodes = p.nodes; eight = p.eight; left = p.left; first = p.first; ended = p.ended; sound = p.sound; fed = p.fed; made = p.made; silent = p.silent }

  -- ------ a turn of the feeder

  -- the last entry of the node is the feeder's
  abbrev IsFedLast : (node : ℕ) → Run → Type 0
  IsFedLast node r = (h : List LogEntry) × (y : LogEntry) × (entries_at node r ≡ h ++ y ∷ []) × (y.who ≡ 0)

  -- after a turn of the feeder before the end
  turn_last : (r : Run) → HasCome r → (turned batch r).has_ended ≡ false → (node : ℕ) → node ≤ DEMUX_NODES → IsFedLast node (turned batch r)
  turn_last r p unended node le = go (nat_eq (length r.left) 0) unended where
    go : (b : Bool) → (if b then ended r else passed r (min batch (length r.left))).has_ended ≡ false → IsFedLast node (if b then ended r else passed r (min batch (length r.left)))
    go true unended = absurd (let k : true ≡ false = sym (ended_over r) ∙ unended in cc k)
    go false unended =
        let c : Invocation = call.Pass Frontend r.first (take (min batch (length r.left)) r.left) r.moment in
        (entries_at node r, entry_for 0 r.turns c (node_at node r), fed_entries node c r p.nodes le, refl)

  waited_last : (client : ℕ) (r : Run) → HasCome r → Waits script client (replies_of client (after_waiting script batch client r)) → (after_waiting script batch client r).has_ended ≡ false
      → (node : ℕ) → node ≤ DEMUX_NODES → IsFedLast node (after_waiting script batch client r)
  waited_last client r p waits unended node le =
      go (is_some (waits_on client script (replies_of client r))) (subst (λ rs. Waits script client (slice_index_or rs client [])) (waiting_replies script batch client r) waits) unended where
        go : (b : Bool) → b ≡ true → (if b then turned batch r else r).has_ended ≡ false → IsFedLast node (if b then turned batch r else r)
        go true is unended = turn_last r p unended node le
        go false is unended = absurd (cc is)

  -- ------ a call of a client

  module _ (r : Run) (client : ℕ) (e : Event) (lt : client < clients) (stands : next_event client script (replies_of client r) ≡ Some e) (p : HasCome r) (only : OnlyWaits script batch client r)
      (fed : Waits script client (replies_of client r) → r.has_ended ≡ false → (node : ℕ) → node ≤ DEMUX_NODES → IsFedLast node r) where
    abbrev after : Run
    after = called client (plays_of client script) e r

    abbrev batches : Batches
    batches = plays_of client script

    abbrev c : Invocation
    c = call_of batches e.want r.moment

    numbered : (e.step ≡ length (replies_of client r)) × (e.node ≤ DEMUX_NODES)
    numbered = next_is_numbered client script (replies_of client r) e ranges stands

    at : (node : ℕ) → IsCalledAt client batches e r node
    at node = called_at client batches e r node p.nodes numbered.1

    call_sound : (node : ℕ) → node ≤ DEMUX_NODES → IsCalledAt client batches e r node → IsSound (sources script packets) clients r.has_ended node (node_at node after)
    call_sound node le (inl here) =
        let n : Node = node_at node r in
        let s = p.sound node le in
        let stays = end_stays (client + 1) c (answer_by (client + 1) c n) (history_of n) (no_end batches e.want r.moment (client + 1) (answer_by (client + 1) c n) (history_of n)) in
        subst (IsSound (sources script packets) clients r.has_ended node) (sym here.1)
        (sound_answered (sources script packets) clients r.has_ended r.has_ended node n (client + 1) e.step c (omega (arith, lt)) (from_client script packets client e.want r.moment) (stays ∙ s.ended) s)
    call_sound node le (inr there) = subst (IsSound (sources script packets) clients r.has_ended node) (sym there.1) (p.sound node le)

    -- the log of a node has the call's entry behind it, or is the same
    call_fed : (node : ℕ) → IsCalledAt client batches e r node → steps_of 0 (entries_at node after) ≡ steps_of 0 (entries_at node r)
    call_fed node (inl here) =
        ap (steps_of 0) (ap entries_of here.1 ∙ entries_answered (client + 1) e.step c (node_at node r))
        ∙ none_fed (entries_at node r) (entry_for (client + 1) e.step c (node_at node r)) (λ is. absurd (omega (arith, is)))
    call_fed node (inr there) = ap (steps_of 0) (ap entries_of there.1)

    abbrev x : LogEntry
    x = record { node = e.node; place = length (entries_at e.node r); step = e.step; who = client + 1; act = act_of c; response = answer_by (client + 1) c (node_at e.node r) }

    here : IsCalledAt client batches e r e.node → entries_at e.node after ≡ entries_at e.node r ++ x ∷ []
    here (inl is) =
        ap entries_of is.1 ∙ entries_answered (client + 1) e.step c (node_at e.node r)
        ∙ ap (λ n. entries_at e.node r ++ record { node = n; place = length (entries_at e.node r); step = e.step; who = client + 1; act = act_of c; response = answer_by (client + 1) c (node_at e.node r) } ∷ []) (p.sound e.node numbered.1).number
    here (inr not) = absurd (not.0 refl)

    elsewhere : (node : ℕ) → node ≢ e.node → IsCalledAt client batches e r node → entries_at node after ≡ entries_at node r
    elsewhere node ne (inl is) = absurd (ne is.0)
    elsewhere node ne (inr not) = ap entries_of not.1

    my_replies : replies_of client after ≡ replies_of client r ++ x.response ∷ []
    my_replies =
        get_or-set_same r.replies client (replies_of client r ++ reply_to client (plays_of client script) e r ∷ []) [] (omega (arith, lt, few, p.eight))

    -- the feeder has had its turn where the client waited
    not_last : (x : LogEntry) → x.node ≤ DEMUX_NODES → x.who ≡ client + 1 → Waits script client (replies_of client r)
        → IsOpenBehind (λ node. entries_at node r) r.has_ended x → ⊥
    not_last x le mine waits (there, last, unended) =
        let f = fed waits unended x.node le in
        let end : x.place ≡ length f.0 = omega (arith, last, ap length f.2, length-append f.0 (f.1 ∷ [])) in
        let same : f.1 ≡ x = same_some f.1 x (sym (at_last f.0 f.1) ∙ ap (slice_get (f.0 ++ f.1 ∷ [])) (sym end) ∙ ap (λ h. slice_get h x.place) (sym f.2) ∙ there) in
        absurd (omega (arith, mine, f.3, ap (λ y. y.who) same))

    -- a client waits only after Again, before the end of the stream
    still_open : Waits script client (replies_of client r ++ x.response ∷ []) → r.has_ended ≡ false
    still_open waits =
        let n : Node = node_at e.node r in
        let now = (progress client script (replies_of client r ++ x.response ∷ [])).standing in
        let again : x.response ≡ Again false = after_again now x.response (subst (λ o. IsSome o) (last_counts now (replies_of client r) x.response) waits) in
        sym (p.sound e.node numbered.1).ended ∙ answer_open (rules_at n.number) (history_of n) (client + 1) c again

    call_made : (other : ℕ) → other < clients → (b : Bool) → nat_eq other client ≡ b → AreMade script other (λ node. entries_at node after) r.has_ended (replies_of other after)
    call_made other less true yea =
        let eq : other ≡ client = grind (arith, nat_tests, yea) in
        subst (λ o. AreMade script o (λ node. entries_at node after) r.has_ended (replies_of o after)) (sym eq)
        (subst (λ rs. AreMade script client (λ node. entries_at node after) r.has_ended rs) (sym my_replies)
        (mine_made script client (λ node. entries_at node r) (λ node. entries_at node after) (replies_of client r) x e r.moment r.has_ended (p.made client lt) stands refl numbered.1 numbered.0 refl refl refl
        (here (at e.node)) (λ node le ne. elsewhere node ne (at node)) not_last still_open))
    call_made other less false nay =
        let ne : other ≢ client = λ is. grind (arith, nat_tests, nay, is) in
        let theirs : replies_of other after ≡ replies_of other r = get_or-set_other r.replies client other (replies_of client r ++ reply_to client (plays_of client script) e r ∷ []) [] ne in
        subst (λ rs. AreMade script other (λ node. entries_at node after) r.has_ended rs) (sym theirs)
        (others_made script other (λ node. entries_at node r) (λ node. entries_at node after) r.has_ended r.has_ended (replies_of other r) (λ node le. others node ne (at node))
        (λ x le waits unended. absurd (let k : true ≡ false = sym waits ∙ ap is_some (only other ne) in cc k)) (p.made other less)) where
          others : (node : ℕ) → other ≢ client → IsCalledAt client batches e r node
              → (entries_at node after ≡ entries_at node r) ⊎ ((y : LogEntry) × (entries_at node after ≡ entries_at node r ++ y ∷ []) × (y.who ≢ other + 1))
          others node ne (inl is) =
              inr (entry_for (client + 1) e.step c (node_at node r), ap entries_of is.1 ∙ entries_answered (client + 1) e.step c (node_at node r), λ eq. absurd (ne (omega (arith, eq))))
          others node ne (inr not) = inl (ap entries_of not.1)

    call_keeps : HasCome after
    call_keeps = record {
      nodes = length-set r.nodes e.node (answered (client + 1) e.step c (node_at e.node r)) ∙ p.nodes;
      eight = length-set r.replies client (replies_of client r ++ reply_to client (plays_of client script) e r ∷ []) ∙ p.eight;
      left = p.left;
      first = p.first;
      ended = p.ended;
      sound = λ node le. call_sound node le (at node);
      fed = fed_other batch (λ node. entries_at node r) (λ node. entries_at node after) r.turns r.first r.has_ended p.fed (λ node le. call_fed node (at node));
      made = λ other less. call_made other less (nat_eq other client) refl;
      silent = λ other above. get_or-set_other r.replies client other (replies_of client r ++ reply_to client (plays_of client script) e r ∷ []) [] (λ same. absurd (omega (arith, same, above, lt))) ∙ p.silent other above;
    }

  -- ------ at the beginning

  begun_at : (node : ℕ) → node ≤ DEMUX_NODES → node_at node (begun packets) ≡ uncalled node
  begun_at node le = get_or-map-range_with_len uncalled 0 (DEMUX_NODES + 1) node node (uncalled node) (omega (arith, le)) (omega arith)

  no_entry : (place : ℕ) (e : LogEntry) (h : List LogEntry) → h ≡ [] → slice_get h place ≡ Some e → ⊥
  no_entry place e h none is = let k : slice_get {X = LogEntry} [] place ≡ Some e = subst (λ l. slice_get l place ≡ Some e) none is in absurd (cc)

  begun_come : HasCome (begun packets)
  unfolding has_ended
  begun_come = record {
    nodes = refl;
    eight = refl;
    left = refl;
    first = omega arith;
    ended = λ is. absurd (cc);
    sound = λ node le. subst (IsSound (sources script packets) clients false node) (sym (begun_at node le)) (record { number = refl; legal = tt; good = tt; ended = refl });
    fed = record { batches = []; each_size = All-nil (λ b. (1 ≤ b.size) × (b.size ≤ batch)); whole = refl; counted = refl; on_each = λ node le. ap (λ n. steps_of 0 (entries_of n)) (begun_at node le) };
    made = λ client lt. record {
      made = [];
      same = sym (none_said 8 client);
      steps = λ i e is. absurd (no_entry i e [] refl is);
      events = λ i e is. absurd (no_entry i e [] refl is);
      within = λ i e is. absurd (no_entry i e [] refl is);
      each = λ node le. ap (λ n. by_caller (client + 1) (entries_of n)) (sym (begun_at node le));
      paid = λ i e is waits. absurd (no_entry i e [] refl is);
    };
    silent = λ client above. none_said 8 client;
  }

  -- ------ the run

  steps : (one : 1 ≤ batch) → IsKept script batch clients HasCome
  steps one = record {
    feeds = record { passes = λ r size fit le p. pass_keeps r size (fit one).0 (fit one).1 le p; ends = end_keeps };
    ticks = tick_keeps;
    calls = λ r client e lt stands only was p. call_keeps (after_waiting script batch client r) client e lt stands p only (waited_last client r was);
  }

  pub moment_come : (one : 1 ≤ batch) (r : Run) → AreBelow clients script.lines → IsMoment script batch packets r → HasCome r
  moment_come one r below moment = kept_moment script batch clients HasCome (steps one) packets r below moment begun_come

  pub run_come : (one : 1 ≤ batch) (r : Run) → AreBelow clients script.lines → IsSerialRun script batch packets r → HasCome r
  run_come one r below run = kept script batch clients HasCome (steps one) packets r below run begun_come
