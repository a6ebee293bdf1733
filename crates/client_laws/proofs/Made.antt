-- A command that is through has made calls as its verb says.
use Rattle.std.proofs.Common.{◌≡◌, refl, sym, ap, subst, ◌∙◌, ℕ, zero, suc, ◌+◌, ◌<◌, ◌⊎◌, Bool, true, false, List, [], ◌∷◌, ◌++◌, Option, Some, None, inl, inr, length, map, take, arith}
use Rattle.std.proofs.lemmas.Bool.Decides.{nat_tests}
use Rattle.std.proofs.lemmas.List.Elements.{All-cons, All-nil}
use Rattle.std.specs.Prelude.{if◌then◌else◌, nat_lt, slice_get, slice_index_or}
use Rattle.client_core.specs.Commands.{Slots, ends_drain, ends_wait, stands, through}
use Rattle.client_core.specs.Steps.{after, doing, event_of, first, first_at, first_on, telling}
use Rattle.client_core.specs.declared.event.Event.{Event}
use Rattle.client_core.specs.declared.event.ClientRequest.TheVariants as ask
use Rattle.client_core.specs.declared.task.Ending.{Ending}
use Rattle.client_core.specs.declared.task.Ending.TheVariants.{AllBusy, Bound, Made}
use Rattle.client_core.specs.declared.task.Next.{Next}
use Rattle.client_core.specs.declared.task.Next.TheVariants.{Still, Through}
use Rattle.client_core.specs.declared.task.Task.{Task}
use Rattle.client_core.specs.declared.task.Task.TheVariants as task
use Rattle.client_script.specs.declared.line.Target.{Target}
use Rattle.client_script.specs.declared.line.Target.TheVariants.{Dvr, Node, Slot}
use Rattle.client_script.specs.declared.line.Verb.{Verb}
use Rattle.client_script.specs.declared.line.Verb.TheVariants.{Drain, GetStc, Once, ReadWait, Write}
use Rattle.client_script.specs.declared.line.Want.{Want}
use Rattle.client_script.specs.declared.line.Want.TheVariants.{Open, Poll, Read}
use Rattle.dmx_calls.specs.Response.{Busy, Done, Ready, Response, TapChange}
use Rattle.dmx_calls.specs.declared.limits.TheConstants.{DEMUX_NODES}
use Rattle.dmx_calls.specs.declared.reply.Tap.TheVariants.{Attach as AttachTap, Detach as DetachTap, Keep as KeepTap}
use Rattle.client_laws.specs.Laws.{CommandsMakeCalls, event_at}
use Rattle.client_laws.specs.Verbs.{CommandCall, FindsNone, FindsOne, IsTold, Makes, MakesAt, MakesOn, MakesOne, MakesWrite, OpensFrom, ReadsUntil, asks, call, is_busy, on_each, replies_to}

-- ------ the calls of small steps

asked_of : Task → Response → CommandCall
asked_of t r = call (event_of t 0).node (event_of t 0).want r

calls_by : Next → List Response → List CommandCall
calls_by (Through ending) rs = []
calls_by (Still t) [] = []
calls_by (Still t) (r ∷ rs) = asked_of t r ∷ calls_by (after t r) rs

-- their replies come first, and the step has risen by their number
own : (n : Next) (step : ℕ) (rs : List Response) (ending : Ending) (next : ℕ) (left : List Response) → doing n step rs ≡ through ending next left
    → (rs ≡ replies_to (calls_by n rs) ++ left) × (next ≡ step + length (calls_by n rs))
unfolding calls_by asked_of
own (Through e) step rs ending next left is =
    let same : rs ≡ left = cc is in let at : step ≡ next = cc is in (same, omega (arith, at))
own (Still t) step [] ending next left is = absurd (cc is)
own (Still t) step (r ∷ rs) ending next left is =
    let more = own (after t r) (step + 1) rs ending next left is in
    let behind = more.1 in (ap (λ (l : List Response). r ∷ l) more.0, omega (arith, behind))

same_event : (t : Task) (step : ℕ) (r : Response) → event_of t step ≡ event_at step (asked_of t r)
unfolding asked_of
same_event (task.Call node want) step r = refl
same_event (task.ReadWait node count) step r = refl
same_event (task.Drain node count) step r = refl
same_event (task.OpenFrom slot node) step r = refl
same_event (task.Attach ending node pids) step r = refl
same_event (task.Detach ending node) step r = refl
same_event (task.Write node write has) step r = refl
same_event (task.Play write node) step r = refl

-- before each it stood by the replies to those before it
stood : (n : Next) (step : ℕ) (rs : List Response) (i : ℕ) (c : CommandCall) → slice_get (calls_by n rs) i ≡ Some c → doing n step (take i rs) ≡ stands (event_at (step + i) c)
unfolding calls_by
stood (Through e) step rs i c at = absurd (cc at)
stood (Still t) step [] i c at = absurd (cc at)
stood (Still t) step (r ∷ rs) zero c at =
    let same : asked_of t r ≡ c = cc at in
    let here : step ≡ step + 0 = omega arith in
    ap (λ (e : Event). stands e) (same_event t step r ∙ (ap (λ (x : CommandCall). event_at step x) same ∙ ap (λ (k : ℕ). event_at k c) here))
stood (Still t) step (r ∷ rs) (suc i) c at =
    let there : step + 1 + i ≡ step + suc i = omega arith in
    stood (after t r) (step + 1) rs i c at ∙ ap (λ (k : ℕ). stands (event_at k c)) there

-- ------ what the dvr node is told

-- of a node with a test whether it is a demux node
told_at : (e : Ending) (node from to : ℕ) (tap : TapChange) (step : ℕ) (rs : List Response) (ending : Ending) (next : ℕ) (left : List Response)
    → doing (if nat_lt node DEMUX_NODES then telling e node tap else Through e) step rs ≡ through ending next left
    → IsTold node (Done from to tap) (calls_by (if nat_lt node DEMUX_NODES then telling e node tap else Through e) rs) × (ending ≡ e)
unfolding calls_by asked_of
told_at e node from to KeepTap step rs ending next left is = go (nat_lt node DEMUX_NODES) is where
  go : (b : Bool) → doing (if b then Through e else Through e) step rs ≡ through ending next left
      → (asks (calls_by (if b then Through e else Through e) rs) ≡ []) × (ending ≡ e)
  go true is = (refl, cc is)
  go false is = (refl, cc is)
told_at e node from to (AttachTap pids) step rs ending next left is = go (nat_lt node DEMUX_NODES) rs is where
  go : (b : Bool) (rs : List Response) → doing (if b then Still (task.Attach e node pids) else Through e) step rs ≡ through ending next left
      → (asks (calls_by (if b then Still (task.Attach e node pids) else Through e) rs) ≡ map (λ want. (DEMUX_NODES, want)) (if b then ask.Attach node pids ∷ [] else [])) × (ending ≡ e)
  go true [] is = absurd (cc is)
  go true (r ∷ rs) is = (refl, cc is)
  go false rs is = (refl, cc is)
told_at e node from to DetachTap step rs ending next left is = go (nat_lt node DEMUX_NODES) rs is where
  go : (b : Bool) (rs : List Response) → doing (if b then Still (task.Detach e node) else Through e) step rs ≡ through ending next left
      → (asks (calls_by (if b then Still (task.Detach e node) else Through e) rs) ≡ map (λ want. (DEMUX_NODES, want)) (if b then ask.Detach node ∷ [] else [])) × (ending ≡ e)
  go true [] is = absurd (cc is)
  go true (r ∷ rs) is = (refl, cc is)
  go false rs is = (refl, cc is)

-- of a demux node
told_below : (e : Ending) (node from to : ℕ) (tap : TapChange) (step : ℕ) (rs : List Response) (ending : Ending) (next : ℕ) (left : List Response)
    → nat_lt node DEMUX_NODES ≡ true → doing (telling e node tap) step rs ≡ through ending next left
    → IsTold node (Done from to tap) (calls_by (telling e node tap) rs) × (ending ≡ e)
told_below e node from to tap step rs ending next left low =
    subst (λ (b : Bool). doing (if b then telling e node tap else Through e) step rs ≡ through ending next left
    → IsTold node (Done from to tap) (calls_by (if b then telling e node tap else Through e) rs) × (ending ≡ e)) low
    (told_at e node from to tap step rs ending next left)

-- ------ each verb

call_made : (node : ℕ) (want : Want) (step : ℕ) (rs : List Response) (ending : Ending) (next : ℕ) (left : List Response) → doing (Still (task.Call node want)) step rs ≡ through ending next left
    → MakesOne node want (calls_by (Still (task.Call node want)) rs) × (ending ≡ Made)
unfolding calls_by asked_of
call_made node want step [] ending next left is = absurd (cc is)
call_made node want step (Done from to tap ∷ rs) ending next left is =
    let t = told_at Made node from to tap (step + 1) rs ending next left is in
    (record { reply = Done from to tap; behind = calls_by (after (task.Call node want) (Done from to tap)) rs; are = refl; tells = t.0 }, t.1)
call_made node want step (r ∷ rs) ending next left is = (record { reply = r; behind = []; are = refl; tells = refl }, cc is)

-- a task that reads again unless a reply ends it
module _ (t : Task) (ends : Response → Bool) (node count : ℕ) (next_is : (r : Response) → after t r ≡ (if ends r then Through Made else Still t))
    (asks_so : (r : Response) → asked_of t r ≡ call node (ask.Own (Read count)) r) where
  reads_made : (step : ℕ) (rs : List Response) (ending : Ending) (next : ℕ) (left : List Response) → doing (Still t) step rs ≡ through ending next left
      → ReadsUntil ends node count (calls_by (Still t) rs) × (ending ≡ Made)
  unfolding calls_by
  reads_made step [] ending next left is = absurd (cc is)
  reads_made step (r ∷ rs) ending next left is =
      subst (λ (n : Next). doing n (step + 1) rs ≡ through ending next left → ReadsUntil ends node count (asked_of t r ∷ calls_by n rs) × (ending ≡ Made)) (sym (next_is r))
      (go (λ is. reads_made (step + 1) rs ending next left is) (ends r) refl) is where
        go : (doing (Still t) (step + 1) rs ≡ through ending next left → ReadsUntil ends node count (calls_by (Still t) rs) × (ending ≡ Made))
            → (b : Bool) → ends r ≡ b → doing (if b then Through Made else Still t) (step + 1) rs ≡ through ending next left
            → ReadsUntil ends node count (asked_of t r ∷ calls_by (if b then Through Made else Still t) rs) × (ending ≡ Made)
        go later true stops is =
            (record { before = []; last = r; are = ap (λ (c : CommandCall). c ∷ []) (asks_so r); goes_on = All-nil (λ q. ends q ≡ false); is_end = stops }, cc is)
        go later false goes is =
            let m = later is in (
              record {
                before = r ∷ m.0.before;
                last = m.0.last;
                are = ap (λ (c : CommandCall). c ∷ calls_by (Still t) rs) (asks_so r) ∙ ap (λ (l : List CommandCall). call node (ask.Own (Read count)) r ∷ l) m.0.are;
                goes_on = All-cons (λ q. ends q ≡ false) r m.0.before goes m.0.goes_on;
                is_end = m.0.is_end;
              },
              m.1,
            )

opens_made : (slot : ℕ) (rs : List Response) (node step : ℕ) (ending : Ending) (next : ℕ) (left : List Response) → node < DEMUX_NODES
    → doing (Still (task.OpenFrom slot node)) step rs ≡ through ending next left → OpensFrom slot node (calls_by (Still (task.OpenFrom slot node)) rs) ending
unfolding calls_by asked_of
opens_made slot [] node step ending next left low is = absurd (cc is)
opens_made slot (Busy owner ∷ rs) node step ending next left low is =
    go (λ low is. opens_made slot rs (node + 1) (step + 1) ending next left low is) (nat_lt (node + 1) DEMUX_NODES) refl is where
      go : (node + 1 < DEMUX_NODES → doing (Still (task.OpenFrom slot (node + 1))) (step + 1) rs ≡ through ending next left → OpensFrom slot (node + 1) (calls_by (Still (task.OpenFrom slot (node + 1))) rs) ending)
          → (b : Bool) → nat_lt (node + 1) DEMUX_NODES ≡ b → doing (if b then Still (task.OpenFrom slot (node + 1)) else Through AllBusy) (step + 1) rs ≡ through ending next left
          → OpensFrom slot node (call node (ask.Own Open) (Busy owner) ∷ calls_by (if b then Still (task.OpenFrom slot (node + 1)) else Through AllBusy) rs) ending
      go later true more is =
          let lower : node + 1 < DEMUX_NODES = grind (arith, nat_tests, more) in
          let m = later lower is in
          let same : node + 1 + length m.busy ≡ node + length (Busy owner ∷ m.busy) = omega arith in
          record {
            busy = Busy owner ∷ m.busy;
            are_busy = All-cons (λ q. is_busy q ≡ true) (Busy owner) m.busy refl m.are_busy;
            rest = m.rest;
            are = ap (λ (l : List CommandCall). call node (ask.Own Open) (Busy owner) ∷ l) m.are;
            finds = subst (λ (k : ℕ). FindsOne slot k m.rest ending ⊎ FindsNone k m.rest ending) same m.finds;
          }
      go later false none is =
          let last : node + length (Busy owner ∷ []) ≡ DEMUX_NODES = grind (arith, nat_tests, none, low) in
          record {
            busy = Busy owner ∷ [];
            are_busy = All-cons (λ q. is_busy q ≡ true) (Busy owner) [] refl (All-nil (λ q. is_busy q ≡ true));
            rest = [];
            are = refl;
            finds = inr (last, refl, cc is);
          }
opens_made slot (Done from to tap ∷ rs) node step ending next left low is =
    let below : nat_lt node DEMUX_NODES ≡ true = grind (arith, nat_tests, low) in
    let t = told_below (Bound slot node) node from to tap (step + 1) rs ending next left below is in
    let here : node ≡ node + length {A = Response} [] = omega arith in
    record {
      busy = [];
      are_busy = All-nil (λ q. is_busy q ≡ true);
      rest = call node (ask.Own Open) (Done from to tap) ∷ calls_by (telling (Bound slot node) node tap) rs;
      are = refl;
      finds = inl (subst (λ (k : ℕ). FindsOne slot k (call node (ask.Own Open) (Done from to tap) ∷ calls_by (telling (Bound slot node) node tap) rs) ending) here
          (record { is_demux = low; reply = Done from to tap; free = refl; behind = calls_by (telling (Bound slot node) node tap) rs; are = refl; tells = t.0; ends = t.1 }));
    }
opens_made slot (r ∷ rs) node step ending next left low is =
    let here : node ≡ node + length {A = Response} [] = omega arith in
    record {
      busy = [];
      are_busy = All-nil (λ q. is_busy q ≡ true);
      rest = call node (ask.Own Open) r ∷ [];
      are = refl;
      finds = inl (subst (λ (k : ℕ). FindsOne slot k (call node (ask.Own Open) r ∷ []) ending) here
          (record { is_demux = low; reply = r; free = refl; behind = []; are = refl; tells = refl; ends = cc is }));
    }

play_made : (write : ℕ) (rs : List Response) (node step : ℕ) (ending : Ending) (next : ℕ) (left : List Response) → node < DEMUX_NODES
    → doing (Still (task.Play write node)) step rs ≡ through ending next left
    → (passed : List Response) × (calls_by (Still (task.Play write node)) rs ≡ on_each node (ask.Pass write) passed) × (node + length passed ≡ DEMUX_NODES) × (ending ≡ Made)
unfolding calls_by asked_of
play_made write [] node step ending next left low is = absurd (cc is)
play_made write (r ∷ rs) node step ending next left low is =
    go (λ low is. play_made write rs (node + 1) (step + 1) ending next left low is) (nat_lt (node + 1) DEMUX_NODES) refl is where
      go : (node + 1 < DEMUX_NODES → doing (Still (task.Play write (node + 1))) (step + 1) rs ≡ through ending next left
          → (passed : List Response) × (calls_by (Still (task.Play write (node + 1))) rs ≡ on_each (node + 1) (ask.Pass write) passed) × (node + 1 + length passed ≡ DEMUX_NODES) × (ending ≡ Made))
          → (b : Bool) → nat_lt (node + 1) DEMUX_NODES ≡ b → doing (if b then Still (task.Play write (node + 1)) else Through Made) (step + 1) rs ≡ through ending next left
          → (passed : List Response) × (call node (ask.Pass write) r ∷ calls_by (if b then Still (task.Play write (node + 1)) else Through Made) rs ≡ on_each node (ask.Pass write) passed) × (node + length passed ≡ DEMUX_NODES) × (ending ≡ Made)
      go later true more is =
          let lower : node + 1 < DEMUX_NODES = grind (arith, nat_tests, more) in
          let m = later lower is in
          let many = m.2 in (r ∷ m.0, ap (λ (l : List CommandCall). call node (ask.Pass write) r ∷ l) m.1, omega (arith, many), m.3)
      go later false none is =
          let last : node + length (r ∷ []) ≡ DEMUX_NODES = grind (arith, nat_tests, none, low) in (r ∷ [], refl, last, cc is)

write_made : (node write : ℕ) (has : Bool) (step : ℕ) (rs : List Response) (ending : Ending) (next : ℕ) (left : List Response) → doing (Still (task.Write node write has)) step rs ≡ through ending next left
    → MakesWrite node write has (calls_by (Still (task.Write node write has)) rs) × (ending ≡ Made)
unfolding calls_by asked_of
write_made node write has step [] ending next left is = absurd (cc is)
write_made node write true step (Ready readable error at ended ∷ rs) ending next left is =
    let m = play_made write rs 0 (step + 1) ending next left (omega arith) is in
    let many = m.2 in (
      record {
        reply = Ready readable error at ended;
        passed = m.0;
        are = ap (λ (l : List CommandCall). call node (ask.Own Poll) (Ready readable error at ended) ∷ l) m.1;
        many = omega (arith, many);
      },
      m.3,
    )
write_made node write false step (Ready readable error at ended ∷ rs) ending next left is = (record { reply = Ready readable error at ended; passed = []; are = refl; many = refl }, cc is)
write_made node write has step (r ∷ rs) ending next left is = (record { reply = r; passed = []; are = refl; many = refl }, cc is)

-- ------ a command

on_made : (node : ℕ) (v : Verb) (has : Bool) (step : ℕ) (rs : List Response) (ending : Ending) (next : ℕ) (left : List Response) → doing (first_on node v has) step rs ≡ through ending next left
    → MakesOn node v has (calls_by (first_on node v has) rs) ending
unfolding calls_by asked_of
on_made node (Once want) has step rs ending next left is = call_made node want step rs ending next left is
on_made node (ReadWait count) has step rs ending next left is = reads_made (task.ReadWait node count) ends_wait node count (λ r. refl) (λ r. refl) step rs ending next left is
on_made node (Drain count) has step rs ending next left is = reads_made (task.Drain node count) ends_drain node count (λ r. refl) (λ r. refl) step rs ending next left is
on_made node (GetStc num) has step rs ending next left is = (refl, cc is)
on_made node (Write write) has step rs ending next left is = write_made node write has step rs ending next left is

at_made : (o : Option ℕ) (v : Verb) (has : Bool) (step : ℕ) (rs : List Response) (ending : Ending) (next : ℕ) (left : List Response) → doing (first_at o v has) step rs ≡ through ending next left
    → MakesAt o v has (calls_by (first_at o v has) rs) ending
unfolding calls_by
at_made None v has step rs ending next left is = (refl, cc is)
at_made (Some node) v has step rs ending next left is = on_made node v has step rs ending next left is

made : (slots : Slots) (t : Target) (v : Verb) (has : Bool) (step : ℕ) (rs : List Response) (ending : Ending) (next : ℕ) (left : List Response) → doing (first slots t v has) step rs ≡ through ending next left
    → Makes slots t v has (calls_by (first slots t v has) rs) ending
made slots (Node node) v has step rs ending next left is = on_made node v has step rs ending next left is
made slots Dvr v has step rs ending next left is = on_made DEMUX_NODES v has step rs ending next left is
made slots (Slot slot) (Once Open) has step rs ending next left is = opens_made slot rs 0 step ending next left (omega arith) is
made slots (Slot slot) v has step rs ending next left is = at_made (slice_index_or slots slot None) v has step rs ending next left is

pub commands_make_calls : CommandsMakeCalls
commands_make_calls slots t v has step rs ending next left is =
    let o = own (first slots t v has) step rs ending next left is in
    record {
      calls = calls_by (first slots t v has) rs;
      makes = made slots t v has step rs ending next left is;
      own = o.0;
      many = o.1;
      stood = stood (first slots t v has) step rs;
    }
