-- The told entries, dealt out to the nodes, and what was done with them.
use Rattle.report_check.proofs.Imports.{◌≡◌, ◌<◌, ◌+◌, ◌-◌, refl, sym, ap, ◌∙◌, ℕ, List, [], ◌∷◌, ◌++◌, map, Bor, append_assoc, append-nil, arith, map-append, ◌≢◌, Vec, Global, ToldEntry, Outcome, told_entry, LogEntry, Scripted, outcomes, Core, replies, complete, CanRest, HasWalked, queues_in, told_nodes, IsDoneAs, subst, Option, Some, None, slice_get, slice_set, Response, Event, Batches, plays_of, next_event, IsEvent, IsRest}

-- ------ Queues can be walked in one way only
-- one event stands on one node
same_node : (batches : Batches) (o : Option Event) (e f : LogEntry) → IsEvent batches o e → IsEvent batches o f → e.node ≡ f.node
same_node batches None e f a b = absurd a
same_node batches (Some event) e f a b = a.0 ∙ sym b.0

module _ (client : ℕ) (script : Scripted) where
  pub one_walk_from : (made others : List LogEntry) (done : List Response) (queues : List (List LogEntry)) → IsRest client script done queues made → IsRest client script done queues others → made ≡ others
  one_walk_from [] [] done queues a b = refl
  one_walk_from [] (f ∷ others) done queues a b = absurd (subst (λ (o : Option Event). IsEvent (plays_of client script) o f) a.0 b.0)
  one_walk_from (e ∷ made) [] done queues a b = absurd (subst (λ (o : Option Event). IsEvent (plays_of client script) o e) b.0 a.0)
  one_walk_from (e ∷ made) (f ∷ others) done queues a b =
      let node : e.node ≡ f.node = same_node (plays_of client script) (next_event client script done) e f a.0 b.0 in
      let here : slice_get queues e.node ≡ Some (e ∷ a.2.0) = a.2.1 in
      let there : slice_get queues e.node ≡ Some (f ∷ b.2.0) = subst (λ (n : ℕ). slice_get queues n ≡ Some (f ∷ b.2.0)) (sym node) b.2.1 in
      let both : Some (e ∷ a.2.0) ≡ Some (f ∷ b.2.0) = sym here ∙ there in
      let same : e ≡ f = cc in
      let later : a.2.0 ≡ b.2.0 = cc in
      let queues' : slice_set queues f.node b.2.0 ≡ slice_set queues e.node a.2.0 = ap (λ (n : ℕ). slice_set queues n b.2.0) (sym node) ∙ ap (λ (q : List LogEntry). slice_set queues e.node q) (sym later) in
      let on : IsRest client script (done ++ f.response ∷ []) (slice_set queues e.node a.2.0) others = subst (λ (qs : List (List LogEntry)). IsRest client script (done ++ f.response ∷ []) qs others) queues' b.2.2 in
      let on' : IsRest client script (done ++ e.response ∷ []) (slice_set queues e.node a.2.0) others = subst (λ (g : LogEntry). IsRest client script (done ++ g.response ∷ []) (slice_set queues e.node a.2.0) others) (sym same) on in
      let rest : made ≡ others = one_walk_from made others (done ++ e.response ∷ []) (slice_set queues e.node a.2.0) a.2.2 on' in
      ap (λ (g : LogEntry). g ∷ made) same ∙ ap (λ (es : List LogEntry). f ∷ es) rest

pub one_walk : (client : ℕ) (script : Scripted) (done : List Response) (queues : List (List LogEntry)) (made others : List LogEntry) → IsRest client script done queues made → IsRest client script done queues others → made ≡ others
one_walk client script done queues made others a b = one_walk_from client script made others done queues a b

-- a node as the code has it
abbrev pub Node : Type 0
Node = ℕ × Vec ToldEntry Global

abbrev pub told_of : Bor (List ToldEntry) → List LogEntry
told_of h = map told_entry h.now

-- ------ the entries of all nodes

pub dealt_more : (most node : ℕ) (hs : List (Bor (List ToldEntry))) (h : Bor (List ToldEntry)) (rest after : List Node) (all : List (List LogEntry)) → node < most
    → ((left : ℕ) → complete (left + 1) node [] (told_nodes rest) ≡ told_of h ∷ complete left (node + 1) [] (told_nodes after))
    → map told_of hs ++ complete (most - node) node [] (told_nodes rest) ≡ all
    → map told_of (hs ++ h ∷ []) ++ complete (most - (node + 1)) (node + 1) [] (told_nodes after) ≡ all
dealt_more most node hs h rest after all small next so_far =
    let one : most - node ≡ most - (node + 1) + 1 = omega arith in
    let later : List (List LogEntry) = complete (most - (node + 1)) (node + 1) [] (told_nodes after) in
    let cut : complete (most - node) node [] (told_nodes rest) ≡ told_of h ∷ later = ap (λ (left : ℕ). complete left node [] (told_nodes rest)) one ∙ next (most - (node + 1)) in
    let joined : map told_of (hs ++ h ∷ []) ++ later ≡ map told_of hs ++ (told_of h ∷ later) =
    ap (λ (xs : List (List LogEntry)). xs ++ later) (map-append told_of hs (h ∷ [])) ∙ append_assoc (map told_of hs) (told_of h ∷ []) later in
    joined ∙ (ap (λ (xs : List (List LogEntry)). map told_of hs ++ xs) (sym cut) ∙ so_far)

pub dealt_all : (most node : ℕ) (hs : List (Bor (List ToldEntry))) (rest : List Node) (all : List (List LogEntry)) → node ≡ most
    → map told_of hs ++ complete (most - node) node [] (told_nodes rest) ≡ all → map told_of hs ≡ all
dealt_all most node hs rest all end so_far =
    let none : 0 ≡ most - node = omega arith in
    sym (append-nil (map told_of hs)) ∙ (ap (λ (left : ℕ). map told_of hs ++ complete left node [] (told_nodes rest)) none ∙ so_far)

-- ------ what a client did

-- by queues that are these entries of its
module _ (client : ℕ) (script : Scripted) (hs : List (List LogEntry)) (told : List Outcome) (gs : List (List LogEntry)) (same : gs ≡ hs) where
  there : (made : List LogEntry) → IsRest client script [] (queues_in client hs) made → IsRest client script [] (queues_in client gs) made
  there made rest = subst (λ (qs : List (List LogEntry)). IsRest client script [] (queues_in client qs) made) (sym same) rest

  pub is_done : (core : Core) (outs : List Outcome) (walked : HasWalked client script (queues_in client gs) core) → outs ≡ outcomes client script (replies walked.made) → told ≡ outs
      → IsDoneAs script hs client told
  is_done core outs walked are is = record {
    made = walked.made;
    rest = subst (λ (qs : List (List LogEntry)). IsRest client script [] (queues_in client qs) walked.made) same walked.walk;
    outcomes = is ∙ are;
  }

  pub no_walk : (CanRest client script [] (queues_in client gs) → ⊥) → IsDoneAs script hs client told → ⊥
  no_walk never done = never (done.made, there done.made done.rest)

  pub other_outcomes : (core : Core) (outs : List Outcome) (walked : HasWalked client script (queues_in client gs) core) → outs ≡ outcomes client script (replies walked.made) → told ≢ outs
      → IsDoneAs script hs client told → ⊥
  other_outcomes core outs walked are apart done =
      let one : done.made ≡ walked.made = one_walk client script [] (queues_in client gs) done.made walked.made (there done.made done.rest) walked.walk in
      apart (done.outcomes ∙ (ap (λ (made : List LogEntry). outcomes client script (replies made)) one ∙ sym are))
