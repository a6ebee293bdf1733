-- Walking a client's queues, and doing what its commands ask for, are the same.
use Rattle.report_check.proofs.Imports.{◌≡◌, ◌<◌, ◌+◌, refl, sym, ap, subst, ◌∙◌, ℕ, zero, suc, List, [], ◌∷◌, ◌++◌, Bool, true, false, nat_eq, length, take, arith, append_assoc, append-nil, inl, inr, length-map, length-set, map-append, nat_tests, slice_get-map, slice_get_within, Some, None, slice_get, slice_set, option_map, if◌then◌else◌, Has, has_at, take-append_seam, at_before, at_last, at_place, LogEntry, Response, Scripted, next_event, plays_of, IsEvent, HasDone, InTurn, AreAsked, replies, turn_more, asked_more, at_has, has_filter, of_filter, by_caller, calls_of, calls_on, on_node, IsRest, of_client, queues_in, AreInPlace}

-- ------ queues

set_same : (qs : List (List LogEntry)) (n : ℕ) (q later : List LogEntry) → slice_get qs n ≡ Some q → slice_get (slice_set qs n later) n ≡ Some later
set_same [] n q later at = absurd (cc)
set_same (x ∷ xs) zero q later at = refl
set_same (x ∷ xs) (suc n) q later at = set_same xs n q later at

set_other : (qs : List (List LogEntry)) (n m : ℕ) (later : List LogEntry) → nat_eq m n ≡ false → slice_get (slice_set qs n later) m ≡ slice_get qs m
set_other [] n m later apart = refl
set_other (x ∷ xs) zero zero later apart = absurd (grind (arith, nat_tests))
set_other (x ∷ xs) zero (suc m) later apart = refl
set_other (x ∷ xs) (suc n) zero later apart = refl
set_other (x ∷ xs) (suc n) (suc m) later apart =
    let less : nat_eq m n ≡ false = grind (arith, nat_tests) in
    set_other xs n m later less

-- what a node's queue is, once the first of another or of this one was taken
by_node : (P : List LogEntry → Type 0) (qs : List (List LogEntry)) (n : ℕ) (old later : List LogEntry) → slice_get qs n ≡ Some old
    → (node : ℕ) (q : List LogEntry) → slice_get (slice_set qs n later) node ≡ Some q → (node ≡ n → P later) → (nat_eq node n ≡ false → slice_get qs node ≡ Some q → P q) → P q
by_node P qs n old later at node q now here there = by (nat_eq node n) refl
  where
    by : (b : Bool) → nat_eq node n ≡ b → P q
    by true t =
        let same : node ≡ n = grind (arith, nat_tests) in
        let mine : slice_get (slice_set qs n later) node ≡ Some later = subst (λ (m : ℕ). slice_get (slice_set qs n later) m ≡ Some later) (sym same) (set_same qs n old later at) in
        let is : later ≡ q = cc in
        subst P is (here same)
    by false t = there t (sym (set_other qs n node later t) ∙ now)

-- ------ a walk and its calls

-- a first entry on the node, or on another
on_first : (node : ℕ) (e : LogEntry) (made : List LogEntry) (b : Bool) → nat_eq e.node node ≡ b → on_node node (e ∷ made) ≡ (if b then e ∷ on_node node made else on_node node made)
on_first node e made b is = ap (λ c. if c then e ∷ on_node node made else on_node node made) is

module _ (client : ℕ) (script : Scripted) where
  -- what a walk takes of the queues is all that they have, each entry from the queue of its node
  parted : (made : List LogEntry) (done : List Response) (qs : List (List LogEntry)) → IsRest client script done qs made
      → ((node : ℕ) (q : List LogEntry) → slice_get qs node ≡ Some q → on_node node made ≡ q) × ((e : LogEntry) → Has made e → e.node < length qs)
  parted [] done qs rest = (λ node q at. sym (rest.1 node q at), λ e has. absurd has)
  parted (e ∷ made) done qs (event, step, (later, at, rest)) = go (parted made (done ++ e.response ∷ []) (slice_set qs e.node later) rest) where
    go : ((node : ℕ) (q : List LogEntry) → slice_get (slice_set qs e.node later) node ≡ Some q → on_node node made ≡ q) × ((f : LogEntry) → Has made f → f.node < length (slice_set qs e.node later))
        → ((node : ℕ) (q : List LogEntry) → slice_get qs node ≡ Some q → on_node node (e ∷ made) ≡ q) × ((f : LogEntry) → Has (e ∷ made) f → f.node < length qs)
    go (each, low) = (λ node q there. here node q there (nat_eq e.node node) refl, λ f has. below f has) where
      here : (node : ℕ) (q : List LogEntry) → slice_get qs node ≡ Some q → (b : Bool) → nat_eq e.node node ≡ b → on_node node (e ∷ made) ≡ q
      here node q there true yea =
          let same : e.node ≡ node = grind (arith, nat_tests, yea) in
          let mine : slice_get qs node ≡ Some (e ∷ later) = subst (λ n. slice_get qs n ≡ Some (e ∷ later)) same at in
          let is : e ∷ later ≡ q = cc in
          let left : on_node node made ≡ later = subst (λ n. on_node n made ≡ later) same (each e.node later (set_same qs e.node (e ∷ later) later at)) in
          on_first node e made true yea ∙ ap (λ l. e ∷ l) left ∙ is
      here node q there false nay =
          let apart : nat_eq node e.node ≡ false = grind (arith, nat_tests, nay) in
          on_first node e made false nay ∙ each node q (set_other qs e.node node later apart ∙ there)

      below : (f : LogEntry) → Has (e ∷ made) f → f.node < length qs
      below f (inl same) = subst (λ (g : LogEntry). g.node < length qs) same (slice_get_within qs e.node (e ∷ later) at)
      below f (inr more) = let size : length (slice_set qs e.node later) ≡ length qs = length-set qs e.node later in omega (arith, low f more, size)

  -- calls of the client to the end of its commands
  abbrev AreAll : List LogEntry → Type 0
  AreAll made = InTurn (client + 1) made × AreAsked script client made × (next_event client script (replies made) ≡ None)

  more_replies : (before : List LogEntry) (e : LogEntry) → replies (before ++ e ∷ []) ≡ replies before ++ e.response ∷ []
  more_replies before e = map-append (λ (x : LogEntry). x.response) before (e ∷ [])

  -- the calls before a walk, and those of the walk
  walked : (made before : List LogEntry) (qs : List (List LogEntry)) → InTurn (client + 1) before → AreAsked script client before → ((e : LogEntry) → Has made e → e.who ≡ client + 1)
      → IsRest client script (replies before) qs made → AreAll (before ++ made)
  walked [] before qs turn asked own rest = subst AreAll (sym (append-nil before)) (turn, asked, rest.0)
  walked (e ∷ made) before qs turn asked own (event, step, (later, at, rest)) =
      subst AreAll (append_assoc before (e ∷ []) made)
      (walked made (before ++ e ∷ []) (slice_set qs e.node later)
      (turn_more before e (client + 1) turn (step ∙ length-map before (λ (x : LogEntry). x.response)) (own e (inl refl)))
      (asked_more before e script client asked event) (λ f has. own f (inr has))
      (subst (λ rs. IsRest client script rs (slice_set qs e.node later) made) (sym (more_replies before e)) rest))

  -- the queues have what is left of the calls
  rest_of : (made before : List LogEntry) (qs : List (List LogEntry)) → AreAll (before ++ made) → ((e : LogEntry) → Has made e → e.node < length qs)
      → ((node : ℕ) (q : List LogEntry) → slice_get qs node ≡ Some q → on_node node made ≡ q) → IsRest client script (replies before) qs made
  rest_of [] before qs all low each = ((subst AreAll (append-nil before) all).2, λ node q at. sym (each node q at))
  rest_of (e ∷ made) before qs all low each =
      let calls : AreAll ((before ++ e ∷ []) ++ made) = subst AreAll (sym (append_assoc before (e ∷ []) made)) all in
      let now : slice_get ((before ++ e ∷ []) ++ made) (length before) ≡ Some e = at_before (before ++ e ∷ []) made (length before) e (at_last before e) in
      let step : e.step ≡ length (replies before) = (calls.0 (length before) e now).0 ∙ sym (length-map before (λ (x : LogEntry). x.response)) in
      let event = subst (λ l. IsEvent (plays_of client script) (next_event client script (replies l)) e) (ap (λ l. take (length before) l) (append_assoc before (e ∷ []) made) ∙ take-append_seam before (e ∷ made)) (calls.1 (length before) e now) in
      let q = at_place qs e.node (low e (inl refl)) in
      let front : e ∷ on_node e.node made ≡ q.0 = sym (on_first e.node e made true (grind (arith, nat_tests))) ∙ each e.node q.0 q.1 in
      let at : slice_get qs e.node ≡ Some (e ∷ on_node e.node made) = q.1 ∙ ap (λ l. Some l) (sym front) in (
        event,
        step,
        (
          on_node e.node made,
          at,
          subst (λ rs. IsRest client script rs (slice_set qs e.node (on_node e.node made)) made) (more_replies before e)
              (rest_of made (before ++ e ∷ []) (slice_set qs e.node (on_node e.node made)) calls
              (λ f has. let size : length (slice_set qs e.node (on_node e.node made)) ≡ length qs = length-set qs e.node (on_node e.node made) in omega (arith, low f (inr has), size))
              (λ node p there. by_node (λ l. on_node node made ≡ l) qs e.node (e ∷ on_node e.node made) (on_node e.node made) at node p there
              (λ same. ap (λ n. on_node n made) same)
              (λ apart was. sym (on_first node e made false (grind (arith, nat_tests, apart))) ∙ each node p was))),
        ),
      )

-- ------ the queues of a client

-- the history of which a queue is
record QueueOf (client : ℕ) (hs : List (List LogEntry)) (node : ℕ) (q : List LogEntry) : Type 0 where
  history : List LogEntry
  at : slice_get hs node ≡ Some history
  is : of_client client history ≡ q

queue_of : (client : ℕ) (hs : List (List LogEntry)) (node : ℕ) (q : List LogEntry) → slice_get (queues_in client hs) node ≡ Some q → QueueOf client hs node q
queue_of client [] node q at = absurd (cc)
queue_of client (h ∷ hs) zero q at = let is : of_client client h ≡ q = cc in record { history = h; at = refl; is = is }
queue_of client (h ∷ hs) (suc node) q at = let k = queue_of client hs node q at in record { history = k.history; at = k.at; is = k.is }

queue_at : (client : ℕ) (hs : List (List LogEntry)) (node : ℕ) (h : List LogEntry) → slice_get hs node ≡ Some h → slice_get (queues_in client hs) node ≡ Some (of_client client h)
queue_at client hs node h at = slice_get-map (of_client client) hs node ∙ ap (option_map (of_client client)) at

pub walked_is_done : (client : ℕ) (script : Scripted) (hs : List (List LogEntry)) → AreInPlace hs → (made : List LogEntry) → IsRest client script [] (queues_in client hs) made → (done : HasDone script client hs) × (done.made ≡ made)
walked_is_done client script hs places made rest =
    (record { made = made; calls = calls_of script client hs made places all.0 all.1 low on_each; ends = all.2 }, refl)
  where
    parts : ((node : ℕ) (q : List LogEntry) → slice_get (queues_in client hs) node ≡ Some q → on_node node made ≡ q) × ((e : LogEntry) → Has made e → e.node < length (queues_in client hs))
    parts = parted client script made [] (queues_in client hs) rest

    on_each : (node : ℕ) (h : List LogEntry) → slice_get hs node ≡ Some h → on_node node made ≡ by_caller (client + 1) h
    on_each node h at = parts.0 node (of_client client h) (queue_at client hs node h at)

    within : (e : LogEntry) → Has made e → e.node < length hs
    within e has = let size : length (queues_in client hs) ≡ length hs = length-map hs (of_client client) in omega (arith, parts.1 e has, size)

    low : (i : ℕ) (e : LogEntry) → slice_get made i ≡ Some e → e.node < length hs
    low i e at = within e (has_at made e i at)

    own : (e : LogEntry) → Has made e → e.who ≡ client + 1
    own e has =
        let h = at_place hs e.node (within e has) in
        let here : Has (on_node e.node made) e = has_filter (λ (f : LogEntry). nat_eq f.node e.node) made e (grind (arith, nat_tests)) has in
        let mine : nat_eq e.who (client + 1) ≡ true = (of_filter (λ (f : LogEntry). nat_eq f.who (client + 1)) h.0 e (subst (λ l. Has l e) (on_each e.node h.0 h.1) here)).1 in
        grind (arith, nat_tests, mine)

    all : AreAll client script made
    all = walked client script made [] (queues_in client hs) (λ i e at. absurd (cc at)) (λ i e at. absurd (cc at)) own rest

pub done_is_walked : (client : ℕ) (script : Scripted) (hs : List (List LogEntry)) → AreInPlace hs → (d : HasDone script client hs) → IsRest client script [] (queues_in client hs) d.made
done_is_walked client script hs places d =
    rest_of client script d.made [] (queues_in client hs) (d.calls.steps, d.calls.events, d.ends) low
    (λ node q at. let k = queue_of client hs node q at in calls_on script client hs d.made places node k.history k.at d.calls ∙ k.is)
  where
    low : (e : LogEntry) → Has d.made e → e.node < length (queues_in client hs)
    low e has =
        let there = at_has d.made e has in
        let stands = d.calls.stands there.0 e there.1 in
        let size : length (queues_in client hs) ≡ length hs = length-map hs (of_client client) in
        omega (arith, slice_get_within hs e.node stands.0 stands.1, size)
