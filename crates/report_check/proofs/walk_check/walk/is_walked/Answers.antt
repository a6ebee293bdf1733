-- One step of a client over its told entries.
use Rattle.report_check.proofs.Imports.{◌≡◌, ◌<◌, ◌≤◌, ◌+◌, ◌∙◌, ◌∷◌, ◌++◌, [], ℕ, List, length, map, Bor, sym, subst, arith, append_assoc, append-nil, map-append, Option, ToldEntry, told_entry, response_of, LogEntry, Response, Event, Batches, plays_of, next_event, IsAfter, IsEvent, replies, IsRest, CanRest, queues_in, IsTaken, left_on, ap, slice_get, slice_set, Scripted}
use Rattle.std.proofs.Common.{Some, None, All}
use Rattle.report_check.proofs.Queues.{told_of, queue, all_empty, each_empty}
use Rattle.report_check.proofs.walk_check.walk.is_walked.Goals as goal

module _ (client : ℕ) (script : Scripted) (done : List Response) (queues : List (List LogEntry)) where
  -- a walk after an entry that was taken, with that entry in front, is one before it
  pub step_back : (e : LogEntry) (new : List (List LogEntry)) (made : List LogEntry) → IsEvent (plays_of client script) (next_event client script done) e → e.step ≡ length done → IsTaken e.node e queues new
      → IsRest client script (done ++ e.response ∷ []) new made → IsRest client script done queues (e ∷ made)
  step_back e new made ev st taken rest =
      (ev, st, (taken.later, taken.at, subst (λ (qs : List (List LogEntry)). IsRest client script (done ++ e.response ∷ []) qs made) taken.is rest))

  step_from : (event : Event) (e : LogEntry) (new : List (List LogEntry)) → next_event client script done ≡ Some event → IsTaken event.node e queues new
      → (made : List LogEntry) → IsRest client script done queues made → IsEvent (plays_of client script) (Some event) e × (e.step ≡ length done) × CanRest client script (done ++ e.response ∷ []) new
  step_from event e new next taken [] rest =
      let none : next_event client script done ≡ None = rest.0 in
      absurd (cc)
  step_from event e new next taken (f ∷ made) rest =
      let ev : IsEvent (plays_of client script) (Some event) f = subst (λ (o : Option Event). IsEvent (plays_of client script) o f) next rest.0 in
      let later : List LogEntry = rest.2.0 in
      let at : slice_get queues f.node ≡ Some (f ∷ later) = rest.2.1 in
      let node : f.node ≡ event.node = ev.0 in
      let there : slice_get queues event.node ≡ Some (f ∷ later) = subst (λ (n : ℕ). slice_get queues n ≡ Some (f ∷ later)) node at in
      let both : Some (f ∷ later) ≡ Some (e ∷ taken.later) = sym there ∙ taken.at in
      let same : f ≡ e = cc in
      let others : later ≡ taken.later = cc in
      let set : slice_set queues f.node later ≡ new = ap (λ (n : ℕ). slice_set queues n later) node ∙ (ap (λ (q : List LogEntry). slice_set queues event.node q) others ∙ sym taken.is) in
      let on : IsRest client script (done ++ f.response ∷ []) new made = subst (λ (qs : List (List LogEntry)). IsRest client script (done ++ f.response ∷ []) qs made) set rest.2.2 in (
        subst (λ (g : LogEntry). IsEvent (plays_of client script) (Some event) g) same ev,
        subst (λ (g : LogEntry). g.step ≡ length done) same rest.1,
        (made, subst (λ (g : LogEntry). IsRest client script (done ++ g.response ∷ []) new made) same on),
      )

  -- what can be walked can be walked on from the next call
  pub step_on : (event : Event) (e : LogEntry) (new : List (List LogEntry)) → next_event client script done ≡ Some event → IsTaken event.node e queues new
      → CanRest client script done queues → IsEvent (plays_of client script) (Some event) e × (e.step ≡ length done) × CanRest client script (done ++ e.response ∷ []) new
  step_on event e new next taken (made, rest) = step_from event e new next taken made rest

  stuck_from : (event : Event) → next_event client script done ≡ Some event → slice_get queues event.node ≡ Some [] → (made : List LogEntry) → IsRest client script done queues made → ⊥
  stuck_from event next empty [] rest =
      let none : next_event client script done ≡ None = rest.0 in
      absurd (cc)
  stuck_from event next empty (f ∷ made) rest =
      let ev : IsEvent (plays_of client script) (Some event) f = subst (λ (o : Option Event). IsEvent (plays_of client script) o f) next rest.0 in
      let at : slice_get queues f.node ≡ Some (f ∷ rest.2.0) = rest.2.1 in
      let there : slice_get queues event.node ≡ Some (f ∷ rest.2.0) = subst (λ (n : ℕ). slice_get queues n ≡ Some (f ∷ rest.2.0)) ev.0 at in
      absurd (cc)

  -- where the queue of the node is empty that is called next, the entries aren't the client's
  pub stuck : (event : Event) → next_event client script done ≡ Some event → slice_get queues event.node ≡ Some [] → CanRest client script done queues → ⊥
  stuck event next empty (made, rest) = stuck_from event next empty made rest

  end_from : next_event client script done ≡ None → (made : List LogEntry) → IsRest client script done queues made → (node : ℕ) (q : List LogEntry) → slice_get queues node ≡ Some q → q ≡ []
  end_from none [] rest = rest.1
  end_from none (f ∷ made) rest = absurd (subst (λ (o : Option Event). IsEvent (plays_of client script) o f) none rest.0)

  -- where the commands are through, nothing may be left
  pub end_on : next_event client script done ≡ None → CanRest client script done queues → (node : ℕ) (q : List LogEntry) → slice_get queues node ≡ Some q → q ≡ []
  end_on none (made, rest) = end_from none made rest

pub returns-in_default-take_next-clause-other : goal.returns-in_default-take_next-clause-other
returns-in_default-take_next-clause-other c t script after can =
    let on = c.walk.invariant.on script after in
    let next : next_event c.args.client script (replies on.made) ≡ Some c.in-Some.event = sym (c.in-Some.ensures.tied c.args.client script (replies on.made) on.after) in
    stuck c.args.client script (replies on.made) (queues_in c.args.client (map told_of c.walk.nodes.items)) c.in-Some.event next c.in_default-take_next.ensures.next (on.on can)

pub returns-then-not-is_event-clause-other : goal.returns-then-not-is_event-clause-other
returns-then-not-is_event-clause-other c t script after can =
    let on = c.walk.invariant.on script after in
    let next : next_event c.args.client script (replies on.made) ≡ Some c.in-Some.event = sym (c.in-Some.ensures.tied c.args.client script (replies on.made) on.after) in
    let s = step_on c.args.client script (replies on.made) (queues_in c.args.client (map told_of c.walk.nodes.items)) c.in-Some.event (told_entry c.in-Some-take_next.entry.now)
    (queues_in c.args.client (map told_of c.take_next.new.nodes.items)) next c.in-Some-take_next.ensures.next (on.on can) in
    c.is_event.ensures.other c.if-not-is_event.true
    (subst (λ (batches : Batches). IsEvent batches (Some c.in-Some.event) (told_entry c.in-Some-take_next.entry.now)) (sym on.after.plays) s.0) (s.1 ∙ (sym on.after.steps ∙ sym c.in-Some.ensures.node.0))

pub walk-preserved : goal.walk-preserved
walk-preserved c =
    let less : left_on (map told_of c.take_next.new.nodes.items) < left_on (map told_of c.walk.nodes.items) = c.in-Some-take_next.ensures.fewer in
    let few : c.walk.core.step + left_on (map told_of c.walk.nodes.items) ≤ c.args.core.now.step + left_on (map told_of c.args.nodes.now.items) = c.walk.invariant.few in
    let one : c.take.new.self.step ≡ c.walk.core.step + 1 = c.take.ensures.step in
    let still : c.take.new.self.step + left_on (map told_of c.take_next.new.nodes.items) ≤ c.args.core.now.step + left_on (map told_of c.args.nodes.now.items) = omega (arith, less, few, one) in
    record {
      nodes = c.in-Some-take_next.ensures.nodes ∙ c.walk.invariant.nodes;
      few = still;
      on = λ script after.
          let on = c.walk.invariant.on script after in
          let next : next_event c.args.client script (replies on.made) ≡ Some c.in-Some.event = sym (c.in-Some.ensures.tied c.args.client script (replies on.made) on.after) in
          let is = c.is_event.ensures.is c.if-not-is_event.false in
          let e : LogEntry = told_entry c.in-Some-take_next.entry.now in
          let first : List (List LogEntry) = queues_in c.args.client (map told_of c.args.nodes.now.items) in
          let here : List (List LogEntry) = queues_in c.args.client (map told_of c.walk.nodes.items) in
          let behind : List (List LogEntry) = queues_in c.args.client (map told_of c.take_next.new.nodes.items) in
          let own : IsEvent (plays_of c.args.client script) (Some c.in-Some.event) e = subst (λ (batches : Batches). IsEvent batches (Some c.in-Some.event) e) on.after.plays is.0 in
          let event : IsEvent (plays_of c.args.client script) (next_event c.args.client script (replies on.made)) e = subst (λ (o : Option Event). IsEvent (plays_of c.args.client script) o e) (sym next) own in
          let taken : IsTaken e.node e here behind = subst (λ (n : ℕ). IsTaken n e here behind) (sym is.0.0) c.in-Some-take_next.ensures.next in
          let step : e.step ≡ length (replies on.made) = is.1 ∙ (c.in-Some.ensures.node.0 ∙ on.after.steps) in
          let more : replies (on.made ++ e ∷ []) ≡ replies on.made ++ e.response ∷ [] = map-append (λ (f : LogEntry). f.response) on.made (e ∷ []) in
          record {
            made = on.made ++ e ∷ [];
            after = subst (λ (rs : List Response). IsAfter c.args.client script rs c.take.new.self) (sym more)
                (subst (λ r. IsAfter c.args.client script (replies on.made ++ response_of r ∷ []) c.take.new.self) c.told.ensures (c.take.ensures.after c.args.client script (replies on.made) on.after));
            back = λ later rest.
                let there : IsRest c.args.client script (replies on.made ++ e.response ∷ []) behind later = subst (λ (rs : List Response). IsRest c.args.client script rs behind later) more rest in
                let whole : IsRest c.args.client script [] first (on.made ++ e ∷ later) = on.back (e ∷ later) (step_back c.args.client script (replies on.made) here e behind later event step taken there) in
                subst (λ (es : List LogEntry). IsRest c.args.client script [] first es) (sym (append_assoc on.made (e ∷ []) later)) whole;
            on = λ can.
                let s = step_on c.args.client script (replies on.made) here c.in-Some.event e behind next c.in-Some-take_next.ensures.next (on.on can) in
                subst (λ (rs : List Response). CanRest c.args.client script rs behind) (sym more) s.2;
          };
    }

pub returns-clause-walked : goal.returns-clause-walked
returns-clause-walked c e script after =
    let on = c.walk.invariant.on script after in
    let first : List (List LogEntry) = queues_in c.args.client (map told_of c.args.nodes.now.items) in
    let none : next_event c.args.client script (replies on.made) ≡ None = sym (c.in_default.ensures.tied c.args.client script (replies on.made) on.after) in
    let all : All (λ (q : Bor (List ToldEntry)). queue c.args.client q ≡ []) c.walk.nodes.items =
    subst (λ (xs : List (Bor (List ToldEntry))). All (λ q. queue c.args.client q ≡ []) xs) c.deref.ensures.value (c.is_none_left.ensures.none e) in
    let walk : IsRest c.args.client script (replies on.made) (queues_in c.args.client (map told_of c.walk.nodes.items)) [] = (none, all_empty c.args.client c.walk.nodes.items all) in
    record {
      made = on.made;
      walk = subst (λ (es : List LogEntry). IsRest c.args.client script [] first es) (append-nil on.made) (on.back [] walk);
      after = on.after;
    }

pub returns-clause-other : goal.returns-clause-other
returns-clause-other c e script after can =
    let on = c.walk.invariant.on script after in
    let none : next_event c.args.client script (replies on.made) ≡ None = sym (c.in_default.ensures.tied c.args.client script (replies on.made) on.after) in
    let all : All (λ (q : Bor (List ToldEntry)). queue c.args.client q ≡ []) c.walk.nodes.items =
    each_empty c.args.client c.walk.nodes.items (end_on c.args.client script (replies on.made) (queues_in c.args.client (map told_of c.walk.nodes.items)) none (on.on can)) in
    c.is_none_left.ensures.some e (subst (λ (xs : List (Bor (List ToldEntry))). All (λ q. queue c.args.client q ≡ []) xs) (sym c.deref.ensures.value) all)
