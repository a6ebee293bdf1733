-- A client does its commands one after another.
use Rattle.std.proofs.Common.{◌≡◌, refl, sym, ap, ◌∙◌, ℕ, ◌+◌, List, [], ◌∷◌, ◌++◌, None, Some, length, length-append, append_assoc, arith}
use Rattle.std.proofs.lemmas.Option.{none-some}
use Rattle.client_core.specs.Commands.{Doing, Slots, commands_of, stands, through}
use Rattle.client_core.specs.Events.{Ended, Progress, Standing, no_slots, progress_from, slots_after, with_ended}
unfoldable use Rattle.client_core.specs.Events.{progress}
use Rattle.client_core.specs.Steps.{after, doing, done, event_of, first}
use Rattle.client_core.specs.declared.command.ClientCommand.{ClientCommand}
use Rattle.client_core.specs.declared.event.Event.{Event}
use Rattle.client_core.specs.declared.task.Ending.{Ending}
use Rattle.client_core.specs.declared.task.Next.{Next}
use Rattle.client_core.specs.declared.task.Next.TheVariants.{Still, Through}
use Rattle.client_core.specs.declared.task.Task.{Task}
use Rattle.client_core.specs.declared.task.Task.TheVariants as task
use Rattle.dmx_calls.specs.Response.{Response}
use Rattle.client_laws.specs.Clients.{AreMade, ClientsDoTheirCommands, replies_in}
use Rattle.client_laws.specs.Laws.{HasMade}
use Rattle.client_laws.specs.Verbs.{CommandCall, replies_to}
use Rattle.client_laws.proofs.Made.{commands_make_calls}

-- ------ the number of a call

step_of : (t : Task) (step : ℕ) → (event_of t step).step ≡ step
step_of (task.Call node want) step = refl
step_of (task.ReadWait node count) step = refl
step_of (task.Drain node count) step = refl
step_of (task.OpenFrom slot node) step = refl
step_of (task.Attach ending node pids) step = refl
step_of (task.Detach ending node) step = refl
step_of (task.Write node write has) step = refl
step_of (task.Play write node) step = refl

numbered : (n : Next) (step : ℕ) (rs : List Response) (e : Event) → doing n step rs ≡ stands e → e.step ≡ step + length rs
numbered (Through ending) step rs e is = absurd (cc is)
numbered (Still t) step [] e is =
    let same : event_of t step ≡ e = cc is in
    let here : e.step ≡ step = ap (λ (x : Event). x.step) (sym same) ∙ step_of t step in omega (arith, here)
numbered (Still t) step (r ∷ rs) e is = let more = numbered (after t r) (step + 1) rs e is in omega (arith, more)

-- ------ its commands

-- how far these commands are, from this step on, by these replies
record Come (slots : Slots) (step : ℕ) (cs : List ClientCommand) (rs : List Response) (p : Progress) : Type 0 where
  calls : List (List CommandCall)
  made : AreMade slots step cs calls p.ended
  behind : List Response
  own : rs ≡ replies_in calls ++ behind
  standing : (s : Standing) → p.standing ≡ Some s → (s.from ≡ step + length (replies_in calls)) × (s.event.step ≡ step + length rs)
  over : p.standing ≡ None → length calls ≡ length cs

same_some : {A : Type 0} (x y : A) → Some x ≡ Some y → x ≡ y
same_some x y is = cc is

count_replies : (calls : List CommandCall) → length (replies_to calls) ≡ length calls
count_replies [] = refl
count_replies (c ∷ cs) = let more = count_replies cs in omega (arith, more)

-- the command that isn't through
stops : (slots : Slots) (step : ℕ) (c : ClientCommand) (cs : List ClientCommand) (rs : List Response) (e : Event) → done slots c.target c.verb c.has_batch step rs ≡ stands e
    → Come slots step (c ∷ cs) rs (record { ended = []; standing = Some (record { line = c.line; from = step; event = e }) })
stops slots step c cs rs e is = record {
  calls = [];
  made = tt;
  behind = rs;
  own = refl;
  standing = λ s there.
      let same : record { line = c.line; from = step; event = e } ≡ s = same_some {A = Standing} (record { line = c.line; from = step; event = e }) s there in
      let from : step ≡ s.from = ap (λ (x : Standing). x.from) same in
      let at : e.step ≡ s.event.step = ap (λ (x : Standing). x.event.step) same in
      let number = numbered (first slots c.target c.verb c.has_batch) step rs e is in (omega (arith, from), omega (arith, at, number));
  over = λ none. absurd (none-some {A = Standing} (record { line = c.line; from = step; event = e }) (sym none));
}

-- a command that is through, before the others
goes_on : (slots : Slots) (step : ℕ) (c : ClientCommand) (cs : List ClientCommand) (rs : List Response) (ending : Ending) (next : ℕ) (left : List Response) (p : Progress)
    → HasMade slots c.target c.verb c.has_batch step rs ending next left → Come (slots_after ending slots) next cs left p
    → Come slots step (c ∷ cs) rs (with_ended (record { line = c.line; from = step; to = next; ending = ending }) p)
goes_on slots step c cs rs ending next left p m h =
    let many = m.many in
    let count = count_replies m.calls in
    let joined : length (replies_to m.calls ++ replies_in h.calls) ≡ length (replies_to m.calls) + length (replies_in h.calls) = length-append (replies_to m.calls) (replies_in h.calls) in
    let all : length rs ≡ length (replies_to m.calls) + length left = ap (λ (l : List Response). length l) m.own ∙ length-append (replies_to m.calls) left in
    record {
      calls = m.calls ∷ h.calls;
      made = (m.makes, refl, refl, m.many, h.made);
      behind = h.behind;
      own = m.own ∙ (ap (λ (l : List Response). replies_to m.calls ++ l) h.own ∙ sym (append_assoc (replies_to m.calls) (replies_in h.calls) h.behind));
      standing = λ s there. let t = h.standing s there in let from = t.0 in let at = t.1 in (omega (arith, from, many, count, joined), omega (arith, at, many, count, all));
      over = λ none. let fewer = h.over none in omega (arith, fewer);
    }

come : (slots : Slots) (step : ℕ) (cs : List ClientCommand) (rs : List Response) → Come slots step cs rs (progress_from slots step cs rs)
come slots step [] rs = record { calls = []; made = tt; behind = rs; own = refl; standing = λ s there. absurd (none-some s there); over = λ none. refl }
come slots step (c ∷ cs) rs = go (done slots c.target c.verb c.has_batch step rs) refl (λ ending next left. come (slots_after ending slots) next cs left) where
  go : (d : Doing) → done slots c.target c.verb c.has_batch step rs ≡ d
      → ((ending : Ending) (next : ℕ) (left : List Response) → Come (slots_after ending slots) next cs left (progress_from (slots_after ending slots) next cs left))
      → Come slots step (c ∷ cs) rs (elim d [
        | stands event ↦ record { ended = []; standing = Some (record { line = c.line; from = step; event = event }) }
        | through ending next left ↦ with_ended (record { line = c.line; from = step; to = next; ending = ending }) (progress_from (slots_after ending slots) next cs left)
      ])
  go (stands e) is later = stops slots step c cs rs e is
  go (through ending next left) is later =
      goes_on slots step c cs rs ending next left (progress_from (slots_after ending slots) next cs left)
      (commands_make_calls slots c.target c.verb c.has_batch step rs ending next left is) (later ending next left)

pub clients_do_their_commands : ClientsDoTheirCommands
unfolding progress
clients_do_their_commands client script replies =
    let h = come no_slots 0 (commands_of client script) replies in
    record {
      calls = h.calls;
      made = h.made;
      behind = h.behind;
      own = h.own;
      standing = λ s there. let t = h.standing s there in let from = t.0 in let at = t.1 in (omega (arith, from), omega (arith, at));
      over = h.over;
    }
