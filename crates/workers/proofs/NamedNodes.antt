-- Each call of a client is on a node that its script can name.
use Rattle.workers.proofs.Imports.{command_of, ◌≡◌, ◌⊎◌, inl, inr, ⊎_elim, ℕ, ◌+◌, Bool, true, false, ◌||◌, nat_eq, nat_lt, eq-eqb, List, [], ◌∷◌, Option, Some, None, refl, ap, ◌∙◌, subst, if◌then◌else◌, option_map, list_any, Has, has_either, DEMUX_NODES, KeepTap, AttachTap, DetachTap, Response, Done, Ready, TapChange, Scripted, Line, CommandLine, Feed, Tick, Target, Node, Slot, Dvr, Verb, ClientCommand, ReadWait, Drain, GetStc, Write, Batches, Event, Ending, Made, commands_in, commands_among, commands_of, Doing, stands, through, ends_wait, ends_drain, Slots, done, plays_of, Standing, slots_after, progress_from, no_slots, next_event, ahead, is_for, passes_all, names, is_named, Task, Call, OpenFrom, Play, Next, Still, Through, first_on, telling, after, doing, event_of, along, if_next, progress}
use Rattle.client_script.specs.declared.line.Verb.TheVariants.{Once}
use Rattle.client_core.specs.declared.task.Task.TheVariants as task

-- ------ what a command does

-- a command for this target may call this node, or it is the dvr node
abbrev MayCall : Target → Verb → ℕ → Type 0
MayCall target verb node = ((is_for target node || passes_all verb) ≡ true) ⊎ (node ≡ DEMUX_NODES)

abbrev IsOn : Target → Verb → Doing → Type 0
IsOn target verb (stands event) = MayCall target verb event.node
IsOn target verb (through ending step left) = Unit {0}

-- a slot may be bound to any node
any_slot : (slot : ℕ) (verb : Verb) (d : Doing) → IsOn (Slot slot) verb d
any_slot slot verb (stands event) = inl refl
any_slot slot verb (through ending step left) = tt

module _ (target : Target) (verb : Verb) where
  -- a task on such a node; a slot is opened by no other target
  abbrev KeepsOn : Next → Type 0
  KeepsOn (Still (Call node want)) = MayCall target verb node
  KeepsOn (Still (task.ReadWait node count)) = MayCall target verb node
  KeepsOn (Still (task.Drain node count)) = MayCall target verb node
  KeepsOn (Still (OpenFrom slot node)) = ⊥
  KeepsOn (Still (task.Write node write has)) = MayCall target verb node × (passes_all verb ≡ true)
  KeepsOn (Still (Play write node)) = passes_all verb ≡ true
  KeepsOn _ = Unit {0}

  stands_on : (t : Task) (step : ℕ) → KeepsOn (Still t) → MayCall target verb (event_of t step).node
  stands_on (Call node want) step may = may
  stands_on (task.ReadWait node count) step may = may
  stands_on (task.Drain node count) step may = may
  stands_on (OpenFrom slot node) step none = absurd none
  stands_on (task.Attach ending node pids) step may = inr refl
  stands_on (task.Detach ending node) step may = inr refl
  stands_on (task.Write node write has) step may = may.0
  stands_on (Play write node) step all = inl (ap (λ b. is_for target node || b) all ∙ or_true (is_for target node)) where
    or_true : (b : Bool) → (b || true) ≡ true
    or_true true = refl
    or_true false = refl

  telling_on : (ending : Ending) (node : ℕ) (tap : TapChange) → KeepsOn (telling ending node tap)
  telling_on ending node KeepTap = tt
  telling_on ending node (AttachTap pids) = tt
  telling_on ending node DetachTap = tt

  next_on : (t : Task) (r : Response) → KeepsOn (Still t) → KeepsOn (after t r)
  next_on (Call node want) (Done from to tap) may = if_next KeepsOn (nat_lt node DEMUX_NODES) (telling Made node tap) (Through Made) (λ yes. telling_on Made node tap) tt
  next_on (Call node want) _ may = tt
  next_on (task.ReadWait node count) r may = if_next KeepsOn (ends_wait r) (Through Made) (Still (task.ReadWait node count)) (λ yes. tt) may
  next_on (task.Drain node count) r may = if_next KeepsOn (ends_drain r) (Through Made) (Still (task.Drain node count)) (λ yes. tt) may
  next_on (OpenFrom slot node) r none = absurd none
  next_on (task.Attach ending node pids) r may = tt
  next_on (task.Detach ending node) r may = tt
  next_on (task.Write node write has) (Ready readable error at ended) may = if_next KeepsOn has (Still (Play write 0)) (Through Made) (λ yes. may.1) tt
  next_on (task.Write node write has) _ may = tt
  next_on (Play write node) r all = if_next KeepsOn (nat_lt (node + 1) DEMUX_NODES) (Still (Play write (node + 1))) (Through Made) (λ yes. all) tt

  doing_on : (n : Next) (step : ℕ) (rs : List Response) → KeepsOn n → IsOn target verb (doing n step rs)
  doing_on n step rs on = along KeepsOn (IsOn target verb) stands_on (λ ending step left may. tt) next_on n step rs on

first_is_on : (target : Target) (verb : Verb) (has : Bool) (node : ℕ) → MayCall target verb node → KeepsOn target verb (first_on node verb has)
first_is_on target (Once want) has node may = may
first_is_on target (ReadWait count) has node may = may
first_is_on target (Drain count) has node may = may
first_is_on target (GetStc num) has node may = tt
first_is_on target (Write write) has node may = (may, refl)

done_is_on : (slots : Slots) (target : Target) (verb : Verb) (has : Bool) (step : ℕ) (rs : List Response) → IsOn target verb (done slots target verb has step rs)
done_is_on slots (Node n) verb has step rs = doing_on (Node n) verb (first_on n verb has) step rs (first_is_on (Node n) verb has n (inl (ap (λ b. b || passes_all verb) (eq-eqb n n refl))))
done_is_on slots (Slot slot) verb has step rs = any_slot slot verb (done slots (Slot slot) verb has step rs)
done_is_on slots Dvr verb has step rs = doing_on Dvr verb (first_on DEMUX_NODES verb has) step rs (first_is_on Dvr verb has DEMUX_NODES (inr refl))

-- ------ what the commands of a client do

-- what stands before a call is one of these commands, on a node that it may call
abbrev IsOnSome : List ClientCommand → Option Standing → Type 0
IsOnSome cs None = Unit {0}
IsOnSome cs (Some s) = (c : ClientCommand) × Has cs c × MayCall c.target c.verb s.event.node

one_more : (c : ClientCommand) (cs : List ClientCommand) (s : Option Standing) → IsOnSome cs s → IsOnSome (c ∷ cs) s
one_more c cs None on = tt
one_more c cs (Some s) on = (on.0, inr on.1, on.2)

progress_on : (slots : Slots) (step : ℕ) (cs : List ClientCommand) (rs : List Response) → IsOnSome cs (progress_from slots step cs rs).standing
progress_on slots step [] rs = tt
progress_on slots step (c ∷ cs) rs =
    by_doing (done slots c.target c.verb c.has_batch step rs) (done_is_on slots c.target c.verb c.has_batch step rs) (λ next_slots next left. progress_on next_slots next cs left) where
      by_doing : (d : Doing) → IsOn c.target c.verb d → ((next_slots : Slots) (next : ℕ) (left : List Response) → IsOnSome cs (progress_from next_slots next cs left).standing) → IsOnSome (c ∷ cs) (ahead c.line step slots cs d).standing
      by_doing (stands event) on later = (c, inl refl, on)
      by_doing (through ending next left) on later = one_more c cs (progress_from (slots_after ending slots) next cs left).standing (later (slots_after ending slots) next left)

-- ------ the script

module _ (client node : ℕ) (batches : Batches) (c : ClientCommand) (may : (is_for c.target node || passes_all c.verb) ≡ true) where
  by_line : (l : Line) → Has (commands_in client batches l) c → names node l ≡ true
  by_line (CommandLine line who target v) has = by_test (nat_eq who client) has where
    by_test : (b : Bool) → Has (if b then command_of batches line target v ∷ [] else []) c → (is_for target node || passes_all v) ≡ true
    by_test true has = ⊎_elim (λ is. ap (λ (z : ClientCommand). is_for z.target node || passes_all z.verb) is ∙ may) (λ no. absurd no) has
    by_test false has = absurd has
  by_line (Feed n) has = absurd has
  by_line (Tick n) has = absurd has

  in_lines : (lines : List Line) → Has (commands_among client batches lines) c → list_any (names node) lines ≡ true
  in_lines [] has = absurd has
  in_lines (l ∷ lines) has = ⊎_elim (λ here. ap (λ b. b || list_any (names node) lines) (by_line l here)) (λ more. behind (names node l) (in_lines lines more)) (has_either (commands_in client batches l) (commands_among client batches lines) c has) where
    behind : (b : Bool) → list_any (names node) lines ≡ true → (b || list_any (names node) lines) ≡ true
    behind true e = refl
    behind false e = e

named_by : (lines : List Line) (client node : ℕ) (batches : Batches) (c : ClientCommand) → Has (commands_among client batches lines) c → MayCall c.target c.verb node → is_named lines node ≡ true
named_by lines client node batches c has (inl may) = behind (nat_eq node DEMUX_NODES) (in_lines client node batches c may lines has) where
  behind : (b : Bool) → list_any (names node) lines ≡ true → (b || list_any (names node) lines) ≡ true
  behind true e = refl
  behind false e = e
named_by lines client node batches c has (inr is) = ap (λ b. b || list_any (names node) lines) (eq-eqb node DEMUX_NODES is)

-- whatever replies a client has got, its next call is on a node that the script can name
pub named_next : (script : Scripted) (client : ℕ) (rs : List Response) (event : Event) → next_event client script rs ≡ Some event → is_named script.lines event.node ≡ true
unfolding progress
named_next script client rs event is = of_standing (progress_from no_slots 0 (commands_of client script) rs).standing (progress_on no_slots 0 (commands_of client script) rs) is where
  of_standing : (s : Option Standing) → IsOnSome (commands_of client script) s → option_map (λ (s : Standing). s.event) s ≡ Some event → is_named script.lines event.node ≡ true
  of_standing None on is = absurd (cc is)
  of_standing (Some s) on is = let same : s.event ≡ event = cc is in subst (λ (e : Event). is_named script.lines e.node ≡ true) same (named_by script.lines client s.event.node (plays_of client script) on.0 on.1 on.2)
