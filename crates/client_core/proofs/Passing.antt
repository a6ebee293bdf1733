-- The batches of writes pass each demux node once.
use Rattle.client_core.proofs.Imports.{named_by, ahead, first, doing, Task, Call, OpenFrom, Play, ◌≡◌, ◌⊎◌, inl, inr, refl, sym, ap, ◌∙◌, ℕ, ◌+◌, ◌<◌, ◌≤◌, Bool, true, false, List, [], ◌∷◌, ◌++◌, Option, Some, None, arith, nat_lt, option_map, if◌then◌else◌, append_assoc, append-nil, nat_tests, none-some, DEMUX_NODES, KeepTap, AttachTap, DetachTap, Response, Done, Busy, Ready, TapChange, Scripted, Target, Verb, Once, ReadWait, Drain, GetStc, Write, ClientCommand, Event, Ending, Made, Bound, AllBusy, Slots, Doing, stands, through, done, ends_wait, ends_drain, commands_of, Standing, Progress, slots_after, progress_from, no_slots, next_event, Exchange, with_reply, exchanges_after, pass_at, passes_on, played_by, played_from, WritesPass, first_on, event_of, telling, after, Next, Still, Through, progress, played_writes}
use Rattle.std.specs.Prelude.{nat_eq}
use Rattle.client_core.specs.declared.task.Task.TheVariants as task
use Rattle.client_core.proofs.Steps.{any_first, if_next}

-- ------ the passes of one command

-- the writes whose batch passes the node by the calls to which these are the replies
abbrev pub passed_by : (node : ℕ) → Next → (step : ℕ) → List Response → List ℕ
passed_by node (Through ending) step rs = []
passed_by node (Still t) step [] = []
passed_by node (Still t) step (r ∷ rs) = pass_at node (event_of t step) ++ passed_by node (after t r) (step + 1) rs

-- no batch passes from here on
abbrev IsSilent : Next → Type 0
IsSilent (Still (task.Write on write true)) = ⊥
IsSilent (Still (Play write on)) = ⊥
IsSilent _ = Unit {0}

telling_silent : (ending : Ending) (on : ℕ) (tap : TapChange) → IsSilent (telling ending on tap)
telling_silent ending on KeepTap = tt
telling_silent ending on (AttachTap pids) = tt
telling_silent ending on DetachTap = tt

none_either : (b : Bool) → ◌≡◌ {A = List ℕ} (if b then [] else []) []
none_either true = refl
none_either false = refl

next_silent : (node : ℕ) (t : Task) (step : ℕ) (r : Response) → IsSilent (Still t) → (pass_at node (event_of t step) ≡ []) × IsSilent (after t r)
next_silent node (Call on want) step (Done from to tap) is = (none_either (nat_eq on node), if_next IsSilent (nat_lt on DEMUX_NODES) (telling Made on tap) (Through Made) (λ yes. telling_silent Made on tap) tt)
next_silent node (Call on want) step _ is = (none_either (nat_eq on node), tt)
next_silent node (task.ReadWait on count) step r is = (none_either (nat_eq on node), if_next IsSilent (ends_wait r) (Through Made) (Still (task.ReadWait on count)) (λ yes. tt) tt)
next_silent node (task.Drain on count) step r is = (none_either (nat_eq on node), if_next IsSilent (ends_drain r) (Through Made) (Still (task.Drain on count)) (λ yes. tt) tt)
next_silent node (OpenFrom slot on) step (Busy owner) is = (none_either (nat_eq on node), if_next IsSilent (nat_lt (on + 1) DEMUX_NODES) (Still (OpenFrom slot (on + 1))) (Through AllBusy) (λ yes. tt) tt)
next_silent node (OpenFrom slot on) step (Done from to tap) is = (none_either (nat_eq on node), telling_silent (Bound slot on) on tap)
next_silent node (OpenFrom slot on) step _ is = (none_either (nat_eq on node), tt)
next_silent node (task.Attach ending on pids) step r is = (none_either (nat_eq DEMUX_NODES node), tt)
next_silent node (task.Detach ending on) step r is = (none_either (nat_eq DEMUX_NODES node), tt)
next_silent node (task.Write on write true) step r is = absurd is
next_silent node (task.Write on write false) step (Ready readable error at ended) is = (none_either (nat_eq on node), tt)
next_silent node (task.Write on write false) step _ is = (none_either (nat_eq on node), tt)
next_silent node (Play write on) step r is = absurd is

silent : (node : ℕ) (n : Next) (step : ℕ) (rs : List Response) → IsSilent n → passed_by node n step rs ≡ []
silent node (Through ending) step rs is = refl
silent node (Still t) step [] is = refl
silent node (Still t) step (r ∷ rs) is =
    let next = next_silent node t step r is in
    ap (λ ws. ws ++ passed_by node (after t r) (step + 1) rs) next.0 ∙ silent node (after t r) (step + 1) rs next.1

abbrev IsThrough : Doing → Type 0
IsThrough (stands e) = ⊥
IsThrough (through ending next left) = Unit {0}

-- a batch passes the nodes from this one on: not yet the node, or once
abbrev PassesFrom : (node write on : ℕ) → List ℕ → Doing → Type 0
PassesFrom node write on ws d = ((ws ≡ []) × (on ≤ node → node < 32 → IsThrough d → ⊥)) ⊎ ((ws ≡ write ∷ []) × (on ≤ node))

play_passes : (node write on step : ℕ) (rs : List Response) → PassesFrom node write on (passed_by node (Still (Play write on)) step rs) (doing (Still (Play write on)) step rs)
play_passes node write on step [] = inl (refl, λ le low is. is)
play_passes node write on step (r ∷ rs) = go (nat_eq on node) refl (nat_lt (on + 1) DEMUX_NODES) refl (play_passes node write (on + 1) (step + 1) rs) where
  go : (here : Bool) → nat_eq on node ≡ here → (more : Bool) → nat_lt (on + 1) DEMUX_NODES ≡ more
      → PassesFrom node write (on + 1) (passed_by node (Still (Play write (on + 1))) (step + 1) rs) (doing (Still (Play write (on + 1))) (step + 1) rs)
      → PassesFrom node write on ((if here then write ∷ [] else []) ++ passed_by node (if more then Still (Play write (on + 1)) else Through Made) (step + 1) rs) (doing (if more then Still (Play write (on + 1)) else Through Made) (step + 1) rs)
  go true is true more (inl later) = inr (ap (λ ws. write ∷ ws) later.0, (let same : on ≡ node = grind (arith, nat_tests, is) in omega (arith, same)))
  go true is true more (inr later) = absurd (let same : on ≡ node = grind (arith, nat_tests, is) in omega (arith, same, later.1))
  go true is false more later = inr (refl, (let same : on ≡ node = grind (arith, nat_tests, is) in omega (arith, same)))
  go false not true more (inl later) = inl (later.0, λ le low is. later.1 (let below : on + 1 ≤ node = grind (arith, nat_tests, not, le) in below) low is)
  go false not true more (inr later) = inr (later.0, omega (arith, later.1))
  go false not false more later = inl (refl, λ le low is. absurd (grind (arith, nat_tests, not, more, le, low)))

-- a command passes nothing or its own batch; where it is through, on a demux node just what is played
abbrev pub Passes : (node : ℕ) → Verb → (played passed : List ℕ) → Doing → Type 0
Passes node v played ws d = ((ws ≡ []) ⊎ (ws ≡ named_by v)) × (node < DEMUX_NODES → IsThrough d → ws ≡ played)

write_passes : (node on write : ℕ) (has : Bool) (step : ℕ) (rs : List Response)
    → Passes node (Write write) (played_by (Still (task.Write on write has)) rs) (passed_by node (Still (task.Write on write has)) step rs) (doing (Still (task.Write on write has)) step rs)
write_passes node on write false step rs = let none = silent node (Still (task.Write on write false)) step rs tt in (inl none, λ low is. none)
write_passes node on write true step [] = (inl refl, λ low is. absurd is)
write_passes node on write true step (Ready readable error at ended ∷ rs) = go (play_passes node write 0 (step + 1) rs) where
  later : List ℕ
  later = passed_by node (Still (Play write 0)) (step + 1) rs

  first_none : pass_at node (event_of (task.Write on write true) step) ++ later ≡ later
  first_none = ap (λ ws. ws ++ later) (none_either (nat_eq on node))

  go : PassesFrom node write 0 later (doing (Still (Play write 0)) (step + 1) rs) → Passes node (Write write) (write ∷ []) (pass_at node (event_of (task.Write on write true) step) ++ later) (doing (Still (Play write 0)) (step + 1) rs)
  go (inl none) = (inl (first_none ∙ none.0), λ low is. absurd (none.1 (omega arith) low is))
  go (inr one) = (inr (first_none ∙ one.0), λ low is. first_none ∙ one.0)
write_passes node on write true step (_ ∷ rs) = let none = ap (λ (ws : List ℕ). ws ++ []) (none_either (nat_eq on node)) in (inl none, λ low is. none)

-- a command that is no write
free : (node : ℕ) (v : Verb) (n : Next) (step : ℕ) (rs : List Response) (played : List ℕ) → IsSilent n → played ≡ [] → Passes node v played (passed_by node n step rs) (doing n step rs)
free node v n step rs played is none = let s = silent node n step rs is in (inl s, λ low ends. s ∙ sym none)

on_passes : (node on : ℕ) (v : Verb) (has : Bool) (step : ℕ) (rs : List Response) → Passes node v (played_by (first_on on v has) rs) (passed_by node (first_on on v has) step rs) (doing (first_on on v has) step rs)
on_passes node on (Once w) has step rs = free node (Once w) (Still (Call on w)) step rs [] tt refl
on_passes node on (ReadWait count) has step rs = free node (ReadWait count) (Still (task.ReadWait on count)) step rs [] tt refl
on_passes node on (Drain count) has step rs = free node (Drain count) (Still (task.Drain on count)) step rs [] tt refl
on_passes node on (GetStc num) has step rs = (inl refl, λ low is. refl)
on_passes node on (Write write) has step rs = write_passes node on write has step rs

pub first_passes : (node : ℕ) (slots : Slots) (t : Target) (v : Verb) (has : Bool) (step : ℕ) (rs : List Response)
    → Passes node v (played_by (first slots t v has) rs) (passed_by node (first slots t v has) step rs) (doing (first slots t v has) step rs)
first_passes node slots t v has step rs =
    any_first (λ n. Passes node v (played_by n rs) (passed_by node n step rs) (doing n step rs)) slots t v has
    (λ on le. on_passes node on v has step rs) (λ slot lt. free node v (Still (OpenFrom slot 0)) step rs [] tt refl) (inl refl, λ low is. refl)

-- ------ all commands

abbrev pub pass_by : (node : ℕ) → Option Event → List ℕ
pass_by node None = []
pass_by node (Some e) = pass_at node e

-- the passes of calls of which each depends on the replies before it
abbrev pub passes_by : (node : ℕ) → (List Response → Option Event) → List Response → List ℕ
passes_by node next [] = []
passes_by node next (r ∷ rs) = pass_by node (next []) ++ passes_by node (λ m. next (r ∷ m)) rs

pub same_passes : (node : ℕ) (f g : List Response → Option Event) → ((m : List Response) → f m ≡ g m) → (rs : List Response) → passes_by node f rs ≡ passes_by node g rs
same_passes node f g is [] = refl
same_passes node f g is (r ∷ rs) =
    ap (λ o. pass_by node o ++ passes_by node (λ m. f (r ∷ m)) rs) (is [])
    ∙ ap (λ ws. pass_by node (g []) ++ ws) (same_passes node (λ m. f (r ∷ m)) (λ m. g (r ∷ m)) (λ m. is (r ∷ m)) rs)

pub no_passes : (node : ℕ) (rs : List Response) → passes_by node (λ m. None) rs ≡ []
no_passes node [] = refl
no_passes node (r ∷ rs) = no_passes node rs

abbrev pub event_in : Progress → Option Event
event_in p = option_map (λ s. s.event) p.standing

-- the passes of the commands behind this one
abbrev pub passes_behind : (node : ℕ) → Slots → List ClientCommand → Doing → List ℕ
passes_behind node slots cs (stands e) = []
passes_behind node slots cs (through ending next left) = passes_by node (λ m. event_in (progress_from (slots_after ending slots) next cs m)) left

one_command : (node : ℕ) (slots : Slots) (step : ℕ) (c : ClientCommand) (cs : List ClientCommand) (n : Next) (at : ℕ) (rs : List Response)
    → passes_by node (λ m. event_in (ahead c.line step slots cs (doing n at m))) rs ≡ passed_by node n at rs ++ passes_behind node slots cs (doing n at rs)
one_command node slots step c cs (Through ending) at rs = refl
one_command node slots step c cs (Still t) at [] = refl
one_command node slots step c cs (Still t) at (r ∷ rs) =
    ap (λ ws. pass_at node (event_of t at) ++ ws) (one_command node slots step c cs (after t r) (at + 1) rs)
    ∙ sym (append_assoc (pass_at node (event_of t at)) (passed_by node (after t r) (at + 1) rs) (passes_behind node slots cs (doing (after t r) (at + 1) rs)))

-- the passes of a command, and of those behind it
pub first_and_rest : (node : ℕ) (slots : Slots) (step : ℕ) (c : ClientCommand) (cs : List ClientCommand) (rs : List Response)
    → passes_by node (λ m. event_in (progress_from slots step (c ∷ cs) m)) rs ≡ passed_by node (first slots c.target c.verb c.has_batch) step rs ++ passes_behind node slots cs (done slots c.target c.verb c.has_batch step rs)
first_and_rest node slots step c cs rs =
    let n : Next = first slots c.target c.verb c.has_batch in
    same_passes node (λ m. event_in (progress_from slots step (c ∷ cs) m)) (λ m. event_in (ahead c.line step slots cs (doing n step m)))
    (λ m. refl) rs
    ∙ one_command node slots step c cs n step rs

all_pass : (node : ℕ) (slots : Slots) (step : ℕ) (cs : List ClientCommand) (rs : List Response) → node < 32 → (progress_from slots step cs rs).standing ≡ None
    → passes_by node (λ m. event_in (progress_from slots step cs m)) rs ≡ played_from slots step cs rs
all_pass node slots step [] rs low none = no_passes node rs
all_pass node slots step (c ∷ cs) rs low none =
    first_and_rest node slots step c cs rs
    ∙ go (λ ending next left there. all_pass node (slots_after ending slots) next cs left low there) (done slots c.target c.verb c.has_batch step rs) ((first_passes node slots c.target c.verb c.has_batch step rs).1 low) none where
      go : ((ending : Ending) (next : ℕ) (left : List Response) → (progress_from (slots_after ending slots) next cs left).standing ≡ None
          → passes_by node (λ m. event_in (progress_from (slots_after ending slots) next cs m)) left ≡ played_from (slots_after ending slots) next cs left)
          → (d : Doing) → (IsThrough d → passed_by node (first slots c.target c.verb c.has_batch) step rs ≡ played_by (first slots c.target c.verb c.has_batch) rs) → (ahead c.line step slots cs d).standing ≡ None
          → passed_by node (first slots c.target c.verb c.has_batch) step rs ++ passes_behind node slots cs d
          ≡ played_by (first slots c.target c.verb c.has_batch) rs ++ (elim d [ stands event ↦ [] | through ending next left ↦ played_from (slots_after ending slots) next cs left ])
      go deeper (stands e) passes there = absurd (none-some {A = Standing} (record { line = c.line; from = step; event = e }) (sym there))
      go deeper (through ending next left) passes there =
          ap (λ ws. ws ++ passes_behind node slots cs (through ending next left)) (passes tt) ∙ ap (λ ws. played_by (first slots c.target c.verb c.has_batch) rs ++ ws) (deeper ending next left there)

-- ------ all calls

with_one : (node : ℕ) (o : Option Event) (r : Response) (older : List Exchange) → passes_on node (with_reply o r older) ≡ passes_on node older ++ pass_by node o
with_one node None r older = sym (append-nil (passes_on node older))
with_one node (Some e) r older = refl

pub by_calls : (node client : ℕ) (script : Scripted) (before : List Response) (older : List Exchange) (rs : List Response)
    → passes_on node (exchanges_after client script before older rs) ≡ passes_on node older ++ passes_by node (λ m. next_event client script (before ++ m)) rs
by_calls node client script before older [] = sym (append-nil (passes_on node older))
by_calls node client script before older (r ∷ rs) =
    let behind : List ℕ = passes_by node (λ m. next_event client script (before ++ r ∷ m)) rs in
    by_calls node client script (before ++ r ∷ []) (with_reply (next_event client script before) r older) rs
    ∙ ap (λ ws. passes_on node (with_reply (next_event client script before) r older) ++ ws)
    (same_passes node (λ m. next_event client script ((before ++ r ∷ []) ++ m)) (λ m. next_event client script (before ++ r ∷ m)) (λ m. ap (λ x. next_event client script x) (append_assoc before (r ∷ []) m)) rs)
    ∙ ap (λ ws. ws ++ behind) (with_one node (next_event client script before) r older)
    ∙ append_assoc (passes_on node older) (pass_by node (next_event client script before)) behind
    ∙ ap (λ x. passes_on node older ++ (pass_by node (next_event client script x) ++ behind)) (sym (append-nil before))

no_event : (s : Option Standing) → option_map (λ x. x.event) s ≡ None → s ≡ None
no_event None is = refl
no_event (Some s) is = absurd (none-some s.event (sym is))

-- the same of the replies themselves
pub replies_pass : (client : ℕ) (script : Scripted) (replies : List Response) (node : ℕ) → next_event client script replies ≡ None → node < DEMUX_NODES
    → passes_by node (λ m. next_event client script m) replies ≡ played_writes client script replies
unfolding progress played_writes
replies_pass client script replies node none low = all_pass node no_slots 0 (commands_of client script) replies low (no_event (progress client script replies).standing none)

pub writes_pass : WritesPass
writes_pass client script replies node none low = by_calls node client script [] [] replies ∙ replies_pass client script replies node none low
