-- What a command does by small steps: what each task goes on with, and that a reply more is one step more.
use Rattle.client_core.proofs.Imports.{NoNode, ◌≡◌, refl, ℕ, zero, suc, ◌+◌, ◌<◌, ◌≤◌, Bool, true, false, List, [], ◌∷◌, Option, Some, None, arith, nat_lt, if◌then◌else◌, slice_index_or, IfSome, All-head, All-tail, nat_tests, DEMUX_NODES, KeepTap, AttachTap, DetachTap, Response, Done, Busy, Ready, TapChange, IsTargetInRange, Target, Node, Slot, Dvr, Want, Open, Read, Verb, Once, ReadWait, Drain, GetStc, Write, Event, Own, Ending, Made, Bound, AllBusy, Task, Call, OpenFrom, Play, Slots, Doing, stands, through, ends_wait, ends_drain, Batches, IsEndingInRange, IsCallEnding, IsTaskInRange, IsTaskOf, AreSlots, CanAsk, IsWantInRange, IsRequestInRange, IsRequestOf, IsNextInRange, IsNextCalling, IsNextOf, HasNextClock, Next, Still, Through, first_on, first_at, first, event_of, telling, after, doing, IsVerbInRange, PlaysOf}
use Rattle.client_core.specs.declared.task.Task.TheVariants as task
use Rattle.client_core.specs.declared.event.ClientRequest.TheVariants as ask

-- ------ along the steps

pub if_next : (P : Next → Type 0) (b : Bool) (n m : Next) → (b ≡ true → P n) → P m → P (if b then n else m)
if_next P true n m x y = x refl
if_next P false n m x y = y

-- What holds of the first task, and of each behind one of which it holds, holds where the command stands or is through.
pub along : (P : Next → Type 0) (Q : Doing → Type 0) → ((t : Task) (step : ℕ) → P (Still t) → Q (stands (event_of t step)))
    → ((ending : Ending) (step : ℕ) (left : List Response) → P (Through ending) → Q (through ending step left))
    → ((t : Task) (r : Response) → P (Still t) → P (after t r)) → (n : Next) (step : ℕ) (rs : List Response) → P n → Q (doing n step rs)
along P Q there ended next (Through ending) step rs is = ended ending step rs is
along P Q there ended next (Still t) step [] is = there t step is
along P Q there ended next (Still t) step (r ∷ rs) is = along P Q there ended next (after t r) (step + 1) rs (next t r is)

pub step_of : (t : Task) (step : ℕ) → (event_of t step).step ≡ step
step_of (Call node want) step = refl
step_of (task.ReadWait node count) step = refl
step_of (task.Drain node count) step = refl
step_of (OpenFrom slot node) step = refl
step_of (task.Attach ending node pids) step = refl
step_of (task.Detach ending node) step = refl
step_of (task.Write node write has) step = refl
step_of (Play write node) step = refl

-- ------ with what a command begins

slot_bound : (slots : Slots) (slot : ℕ) → AreSlots slots → IfSome (slice_index_or slots slot None) (λ node. node < DEMUX_NODES)
slot_bound [] slot bound = tt
slot_bound (s ∷ slots) zero bound = All-head (λ slot. IfSome slot (λ node. node < DEMUX_NODES)) s slots bound
slot_bound (s ∷ slots) (suc slot) bound = slot_bound slots slot (All-tail (λ slot. IfSome slot (λ node. node < DEMUX_NODES)) s slots bound)

-- What holds of the first task on a node, of an open of a slot and where a slot is unbound, holds of what a command begins with.
pub any_first : (P : Next → Type 0) (slots : Slots) (t : Target) (v : Verb) (has : Bool)
    → ((node : ℕ) → (IsTargetInRange t → AreSlots slots → node ≤ DEMUX_NODES) → P (first_on node v has))
    → ((slot : ℕ) → (IsTargetInRange t → slot < DEMUX_NODES) → P (Still (OpenFrom slot 0))) → P (Through NoNode) → P (first slots t v has)
any_first P slots (Node node) v has on opens none = on node (λ is bound. omega (arith, is))
any_first P slots Dvr v has on opens none = on DEMUX_NODES (λ is bound. omega arith)
any_first P slots (Slot slot) (Once Open) has on opens none = opens slot (λ is. omega (arith, is))
any_first P slots (Slot slot) v has on opens none = at (slice_index_or slots slot None) (slot_bound slots slot) where
  at : (o : Option ℕ) → (AreSlots slots → IfSome o (λ node. node < DEMUX_NODES)) → P (first_at o v has)
  at None bound = none
  at (Some node) bound = on node (λ is all. let lt = bound all in omega (arith, lt))

-- ------ ranges

-- behind a call: it keeps to its range and to these batches, and asks for no counter
abbrev pub IsKept : Batches → Next → Type 0
IsKept batches n = IsNextInRange n × IsNextCalling n × IsNextOf batches n

telling_kept : (batches : Batches) (ending : Ending) (node : ℕ) (tap : TapChange) → IsEndingInRange ending → IsCallEnding ending → IsKept batches (telling ending node tap)
telling_kept batches ending node KeepTap fits calls = (fits, calls, tt)
telling_kept batches ending node (AttachTap pids) fits calls = ((fits, calls), tt, tt)
telling_kept batches ending node DetachTap fits calls = ((fits, calls), tt, tt)

pub next_kept : (batches : Batches) (t : Task) (r : Response) → IsTaskInRange t → IsTaskOf batches t → IsKept batches (after t r)
next_kept batches (Call node want) (Done from to tap) fits of =
    if_next (IsKept batches) (nat_lt node DEMUX_NODES) (telling Made node tap) (Through Made) (λ yes. telling_kept batches Made node tap tt tt) (tt, tt, tt)
next_kept batches (Call node want) _ fits of = (tt, tt, tt)
next_kept batches (task.ReadWait node count) r fits of = if_next (IsKept batches) (ends_wait r) (Through Made) (Still (task.ReadWait node count)) (λ yes. (tt, tt, tt)) (fits, tt, tt)
next_kept batches (task.Drain node count) r fits of = if_next (IsKept batches) (ends_drain r) (Through Made) (Still (task.Drain node count)) (λ yes. (tt, tt, tt)) (fits, tt, tt)
next_kept batches (OpenFrom slot node) (Busy owner) fits of =
    if_next (IsKept batches) (nat_lt (node + 1) DEMUX_NODES) (Still (OpenFrom slot (node + 1))) (Through AllBusy) (λ yes. ((fits.0, grind (arith, nat_tests, yes)), tt, tt)) (tt, tt, tt)
next_kept batches (OpenFrom slot node) (Done from to tap) fits of = telling_kept batches (Bound slot node) node tap fits tt
next_kept batches (OpenFrom slot node) _ fits of = (tt, tt, tt)
next_kept batches (task.Attach ending node pids) r fits of = (fits.0, fits.1, tt)
next_kept batches (task.Detach ending node) r fits of = (fits.0, fits.1, tt)
next_kept batches (task.Write node write has) (Ready readable error at ended) fits of =
    if_next (IsKept batches) has (Still (Play write 0)) (Through Made) (λ yes. (omega arith, tt, of yes)) (tt, tt, tt)
next_kept batches (task.Write node write has) _ fits of = (tt, tt, tt)
next_kept batches (Play write node) r fits of =
    if_next (IsKept batches) (nat_lt (node + 1) DEMUX_NODES) (Still (Play write (node + 1))) (Through Made) (λ yes. (grind (arith, nat_tests, yes), tt, of)) (tt, tt, tt)

-- before a call: it keeps to its range, and to the clocks and batches of its command
abbrev pub IsBegun : (kept : ℕ) → Verb → (has : Bool) → Next → Type 0
IsBegun kept v has n = IsNextInRange n × HasNextClock kept n × ((batches : Batches) → PlaysOf batches v has → IsNextOf batches n)

on_begun : (kept node : ℕ) (v : Verb) (has : Bool) → node ≤ DEMUX_NODES → IsVerbInRange v → CanAsk kept v → IsBegun kept v has (first_on node v has)
on_begun kept node (Once want) has le fits can = ((le, fits), tt, λ batches of. tt)
on_begun kept node (ReadWait count) has le fits can = ((le, fits), tt, λ batches of. tt)
on_begun kept node (Drain count) has le fits can = ((le, fits), tt, λ batches of. tt)
on_begun kept node (GetStc num) has le fits can = (tt, omega (arith, le, can), λ batches of. tt)
on_begun kept node (Write write) has le fits can = (le, tt, λ batches of. of)

pub first_begun : (kept : ℕ) (slots : Slots) (t : Target) (v : Verb) (has : Bool) → IsTargetInRange t → AreSlots slots → IsVerbInRange v → CanAsk kept v → IsBegun kept v has (first slots t v has)
first_begun kept slots t v has is bound fits can =
    any_first (IsBegun kept v has) slots t v has (λ node le. on_begun kept node v has (le is bound) fits can) (λ slot lt. ((lt is, omega arith), tt, λ batches of. tt)) (tt, tt, λ batches of. tt)

-- where it stands, it asks for what there is
abbrev pub IsAsked : Batches → Event → Type 0
IsAsked batches e = (e.node ≤ DEMUX_NODES) × IsRequestInRange e.want × IsRequestOf batches e.want

want_asked : (batches : Batches) (node step : ℕ) (want : Want) → node ≤ DEMUX_NODES → IsWantInRange want → IsAsked batches (record { step = step; node = node; want = Own want })
want_asked batches node step (Read count) le is = (le, is, tt)
want_asked batches node step _ le is = (le, tt, tt)

pub event_asked : (batches : Batches) (t : Task) (step : ℕ) → IsTaskInRange t → IsTaskOf batches t → IsAsked batches (event_of t step)
event_asked batches (Call node want) step fits of = want_asked batches node step want fits.0 fits.1
event_asked batches (task.ReadWait node count) step fits of = (fits.0, fits.1, tt)
event_asked batches (task.Drain node count) step fits of = (fits.0, fits.1, tt)
event_asked batches (OpenFrom slot node) step fits of = (omega (arith, fits.1), tt, tt)
event_asked batches (task.Attach ending node pids) step fits of = (omega arith, tt, tt)
event_asked batches (task.Detach ending node) step fits of = (omega arith, tt, tt)
event_asked batches (task.Write node write has) step fits of = (fits, tt, tt)
event_asked batches (Play write node) step fits of = (omega (arith, fits), tt, of)
