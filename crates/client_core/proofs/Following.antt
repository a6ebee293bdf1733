-- What the clocks of a client have followed, and the outcomes that are by them.
use Rattle.client_core.proofs.Imports.{◌≡◌, ◌≢◌, ◌<◌, ◌≤◌, ◌⊎◌, nat_eq, inl, inr, refl, sym, ap, subst, ◌∙◌, ℕ, Bool, true, false, List, [], ◌∷◌, ◌++◌, Some, None, length, map, take, replicate, arith, slice_get, slice_set, slice_index_or, if◌then◌else◌, All, option_and_then, append_assoc, append-nil, take-append-le, length-set, get_or-set_same, get_or-set_other, nat_tests, All-nil, All-cons, All-head, All-tail, All-replicate, All-get_or, slice_get-get_or, take-length, Response, bytes_counted, unset, last_pcr, HasFollowed, Scripted, Verb, GetStc, ClientCommand, Ending, Made, Bound, AllBusy, NoNode, Asked, Ended, next_event, Exchange, bytes_after, bytes_read, type_after, with_reply, exchanges_after, exchanges, filter_type, is_counter, stc, Counters, stc_kind, kind_by, outcome_by, counters_after, outcome_of, NodeClock, uncalled, counter_of, counter_in, HasFollowedNode, HaveFollowed, AreFew, IsCallEnding, CanAsk, HasClock, CanBegin, IsLate, cut, cut_after}

-- ------ exchanges

-- one reply more
pub exchanges_more : (client : ℕ) (script : Scripted) (before : List Response) (older : List Exchange) (replies : List Response) (r : Response)
    → exchanges_after client script before older (replies ++ r ∷ [])
    ≡ with_reply (next_event client script (before ++ replies)) r (exchanges_after client script before older replies)
exchanges_more client script before older [] r = ap (λ rs. with_reply (next_event client script rs) r older) (sym (append-nil before))
exchanges_more client script before older (q ∷ replies) r =
    exchanges_more client script (before ++ q ∷ []) (with_reply (next_event client script before) q older) replies r
    ∙ ap (λ rs. with_reply (next_event client script rs) r (exchanges_after client script before older (q ∷ replies))) (append_assoc before (q ∷ []) replies)

-- ------ before the first call

nothing_followed : HasFollowed [] unset
unfolding cut cut_after
nothing_followed = record { found = []; cuts = record { size = refl; packets = refl; rest = refl; skipped = refl; counted = refl }; last = refl }

-- clocks of which none has followed a call, for all nodes or for none
abbrev pub fresh_clocks : (asked : Bool) → List NodeClock
fresh_clocks asked = if asked then replicate 33 uncalled else []

pub none_followed : (asked : Bool) → HaveFollowed [] (fresh_clocks asked)
none_followed true = record {
  each = λ node within.
      let same : slice_index_or (replicate 33 uncalled) node uncalled ≡ uncalled =
      All-get_or (λ (c : NodeClock). c ≡ uncalled) (replicate 33 uncalled) node uncalled within (All-replicate (λ (c : NodeClock). c ≡ uncalled) 33 uncalled refl) in
      subst (λ c. HasFollowedNode node [] c) (sym same) (record { followed = nothing_followed; set = refl });
}
none_followed false = record { each = λ node within. absurd (omega (arith, within)) }

pub none_taken : (asked : Bool) → AreFew 0 (fresh_clocks asked)
none_taken true = All-replicate (λ c. bytes_counted c.clock.cutting ≤ 0) 33 uncalled (omega arith)
none_taken false = All-nil (λ c. bytes_counted c.clock.cutting ≤ 0)

-- where clocks are kept, each command can begin
pub can_ask_all : (v : Verb) → CanAsk 33 v
can_ask_all (GetStc num) = omega arith
can_ask_all _ = tt

all_can_begin : (cs : List ClientCommand) → All (CanBegin 33) cs
all_can_begin [] = All-nil (CanBegin 33)
all_can_begin (c ∷ cs) = All-cons (CanBegin 33) c cs (can_ask_all c.verb) (all_can_begin cs)

pub can_begin : (asked : Bool) (cs : List ClientCommand) → (asked ≡ false → All (CanBegin 0) cs) → All (CanBegin (length (fresh_clocks asked))) cs
can_begin true cs none = all_can_begin cs
can_begin false cs none = none refl

-- ------ counters

-- the counter by the clock that is kept is the one that was read
pub counter_is : (xs : List Exchange) (clocks : List NodeClock) → HaveFollowed xs clocks → (node num : ℕ) → node < length clocks → counter_in clocks node num ≡ stc node num xs
counter_is xs clocks have node num within =
    let c = slice_index_or clocks node uncalled in
    let h : HasFollowedNode node xs c = have.each node within in
    let there : slice_get clocks node ≡ Some c = slice_get-get_or clocks node uncalled within in
    ap (option_and_then (counter_of num)) there
    ∙ ap (λ t. if is_counter num t then c.clock.last else None) h.set
    ∙ ap (λ last. if is_counter num (filter_type node xs) then last else None) (h.followed.last ∙ ap last_pcr (sym h.followed.cuts.packets))

-- counters that agree on the nodes whose clocks are kept give the same kinds
kinds_agree : (kept : ℕ) (f g : Counters) → ((node num : ℕ) → node < kept → f node num ≡ g node num) → (ending : Ending) → HasClock kept ending → kind_by f ending ≡ kind_by g ending
kinds_agree kept f g same (Asked node num) has = ap stc_kind (same node num has)
kinds_agree kept f g same Made has = refl
kinds_agree kept f g same (Bound slot node) has = refl
kinds_agree kept f g same AllBusy has = refl
kinds_agree kept f g same NoNode has = refl

-- where no counter is asked for, any counters do
kinds_free : (f g : Counters) (ending : Ending) → IsCallEnding ending → kind_by f ending ≡ kind_by g ending
kinds_free f g (Asked node num) is = absurd is
kinds_free f g Made is = refl
kinds_free f g (Bound slot node) is = refl
kinds_free f g AllBusy is = refl
kinds_free f g NoNode is = refl

-- a command that has made a call asks for no clock
pub called_has_clock : (kept : ℕ) (ending : Ending) → IsCallEnding ending → HasClock kept ending
called_has_clock kept (Asked node num) is = absurd is
called_has_clock kept _ is = tt

-- ------ a call more

-- a node's clock follows a call on it
followed_here : (xs : List Exchange) (x : Exchange) (c d : NodeClock) (node : ℕ) → nat_eq x.event.node node ≡ true
    → ((bytes : List ℕ) → HasFollowed bytes c.clock → HasFollowed (bytes_after x.event.want x.reply bytes) d.clock) → d.filter_type ≡ type_after x.event.want x.reply c.filter_type
    → HasFollowedNode node xs c → HasFollowedNode node (x ∷ xs) d
followed_here xs x c d node is bytes set h = record {
  followed = subst (λ (b : Bool). HasFollowed (if b then bytes_after x.event.want x.reply (bytes_read node xs) else bytes_read node xs) d.clock) (sym is) (bytes (bytes_read node xs) h.followed);
  set = set ∙ (ap (type_after x.event.want x.reply) h.set ∙ ap (λ (b : Bool). if b then type_after x.event.want x.reply (filter_type node xs) else filter_type node xs) (sym is));
}

-- and none on another node
followed_elsewhere : (xs : List Exchange) (x : Exchange) (c : NodeClock) (node : ℕ) → nat_eq x.event.node node ≡ false → HasFollowedNode node xs c → HasFollowedNode node (x ∷ xs) c
followed_elsewhere xs x c node is h = record {
  followed = subst (λ (b : Bool). HasFollowed (if b then bytes_after x.event.want x.reply (bytes_read node xs) else bytes_read node xs) c.clock) (sym is) h.followed;
  set = h.set ∙ ap (λ (b : Bool). if b then type_after x.event.want x.reply (filter_type node xs) else filter_type node xs) (sym is);
}

-- the clocks follow a call on one of their nodes
pub followed_more : (xs : List Exchange) (x : Exchange) (clocks : List NodeClock) (d : NodeClock) → x.event.node < length clocks
    → ((bytes : List ℕ) → HasFollowed bytes (slice_index_or clocks x.event.node uncalled).clock → HasFollowed (bytes_after x.event.want x.reply bytes) d.clock)
    → d.filter_type ≡ type_after x.event.want x.reply (slice_index_or clocks x.event.node uncalled).filter_type
    → HaveFollowed xs clocks → HaveFollowed (x ∷ xs) (slice_set clocks x.event.node d)
followed_more xs x clocks d within bytes set have = record {
  each = λ node lt.
      let below : node < length clocks = subst (λ n. node < n) (length-set clocks x.event.node d) lt in
      go node below (nat_eq x.event.node node) refl;
}
  where
    go : (node : ℕ) → node < length clocks → (here : Bool) → nat_eq x.event.node node ≡ here → HasFollowedNode node (x ∷ xs) (slice_index_or (slice_set clocks x.event.node d) node uncalled)
    go node below true is =
        let same : x.event.node ≡ node = grind (arith, nat_tests, is) in
        let there : slice_index_or (slice_set clocks x.event.node d) node uncalled ≡ d = subst (λ n. slice_index_or (slice_set clocks x.event.node d) n uncalled ≡ d) same (get_or-set_same clocks x.event.node d uncalled within) in
        subst (HasFollowedNode node (x ∷ xs)) (sym there)
        (followed_here xs x (slice_index_or clocks node uncalled) d node is
        (subst (λ n. (read : List ℕ) → HasFollowed read (slice_index_or clocks n uncalled).clock → HasFollowed (bytes_after x.event.want x.reply read) d.clock) same bytes)
        (subst (λ n. d.filter_type ≡ type_after x.event.want x.reply (slice_index_or clocks n uncalled).filter_type) same set) (have.each node below))
    go node below false is =
        let other : node ≢ x.event.node = grind (arith, nat_tests, is) in
        let there : slice_index_or (slice_set clocks x.event.node d) node uncalled ≡ slice_index_or clocks node uncalled = get_or-set_other clocks x.event.node node d uncalled other in
        subst (HasFollowedNode node (x ∷ xs)) (sym there) (followed_elsewhere xs x (slice_index_or clocks node uncalled) node is (have.each node below))

-- ------ outcomes

-- one reply more changes no outcome of a command that was through
pub early_same : (client : ℕ) (script : Scripted) (replies : List Response) (r : Response) (es : List Ended) → All (λ e. e.from ≤ length replies) es
    → map (outcome_of client script replies) es ≡ map (outcome_of client script (replies ++ r ∷ [])) es
early_same client script replies r [] early = refl
early_same client script replies r (e ∷ es) early =
    let one : take e.from (replies ++ r ∷ []) ≡ take e.from replies = take-append-le e.from replies (r ∷ []) (All-head (λ (e : Ended). e.from ≤ length replies) e es early) in
    let more = early_same client script replies r es (All-tail (λ (e : Ended). e.from ≤ length replies) e es early) in
    rw (one, more) refl

late_one : (client : ℕ) (script : Scripted) (replies : List Response) (kept : ℕ) (f : Counters)
    → ((node num : ℕ) → node < kept → f node num ≡ counters_after client script replies node num)
    → (e : Ended) → HasClock kept e.ending → (e.from ≡ length replies) ⊎ IsCallEnding e.ending → outcome_by f e ≡ outcome_of client script replies e
late_one client script replies kept f same e has (inl now) =
    let all : take e.from replies ≡ replies = ap (λ n. take n replies) now ∙ take-length replies in
    ap (λ k. record { line = e.line; from = e.from; to = e.to; kind = k })
    (kinds_agree kept f (counters_after client script replies) same e.ending has ∙ ap (λ rs. kind_by (counters_after client script rs) e.ending) (sym all))
late_one client script replies kept f same e has (inr free) =
    ap (λ k. record { line = e.line; from = e.from; to = e.to; kind = k }) (kinds_free f (counters_after client script (take e.from replies)) e.ending free)

-- the outcomes by clocks that have followed these replies
pub late_same : (client : ℕ) (script : Scripted) (replies : List Response) (kept : ℕ) (f : Counters)
    → ((node num : ℕ) → node < kept → f node num ≡ counters_after client script replies node num)
    → (es : List Ended) → All (IsLate kept (length replies)) es → map (outcome_by f) es ≡ map (outcome_of client script replies) es
late_same client script replies kept f same [] late = refl
late_same client script replies kept f same (e ∷ es) late =
    let l = All-head (IsLate kept (length replies)) e es late in
    let one : outcome_by f e ≡ outcome_of client script replies e = late_one client script replies kept f same e l.clock l.now in
    let more = late_same client script replies kept f same es (All-tail (IsLate kept (length replies)) e es late) in
    rw (one, more) refl

-- The outcomes of commands, and of others that are through now, by clocks that have followed all replies.
pub told_now : (client : ℕ) (script : Scripted) (replies : List Response) (clocks : List NodeClock) (passed : List Ended)
    → HaveFollowed (exchanges client script replies) clocks → All (IsLate (length clocks) (length replies)) passed
    → map (outcome_by (counter_in clocks)) passed ≡ map (outcome_of client script replies) passed
told_now client script replies clocks passed have late =
    late_same client script replies (length clocks) (counter_in clocks) (λ node num within. counter_is (exchanges client script replies) clocks have node num within) passed late
