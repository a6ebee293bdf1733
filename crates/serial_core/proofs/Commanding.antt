-- How the calls of a command bring the run further.
use Rattle.serial_core.proofs.Imports.{◌≡◌, refl, sym, ap, subst, ◌∙◌, ℕ, ◌<◌, ◌≤◌, Bool, true, false, [], ◌∷◌, ◌++◌, Option, Some, None, length, arith, is_some, slice_index_or, get_or-set_same, get_or-set_other, length-set, SourceEnd, Scripted, Event, Batches, plays_of, Core, IsAfter, next_of_line, waits_on, Nodes, Runner, Run, replies_of, called, made, reply_to, after_waiting, turned, calls, no_call, AreCounted, IsNodes, one_if, IsSound, Moves, ComesByCalls, draws_none}
use Rattle.std.proofs.Common.{if◌then◌else◌}
use Rattle.serial_core.proofs.Keeping.{begun_on, waiting_replies}

-- ------ one call

pub moves_called : (x : SourceEnd) (old : Runner) (v : Nodes) (client : ℕ) (batches : Batches) (e : Event) (P : Run → Type 0)
    → IsSound old → AreCounted v → v.has_ended ≡ old.nodes.has_ended
    → ((r : Run) → old.moment ≡ r.moment → IsNodes old.nodes r → IsNodes v (made client batches e r)) → ((r : Run) → old.moment ≡ r.moment → IsNodes old.nodes r → P r)
    → Moves x x old (record { nodes = v; puller = old.puller; moment = old.moment }) (λ r s. (s ≡ called client batches e r) × P r)
moves_called x old v client batches e P sound counted same goes says = record {
  packets = [];
  draws = draws_none x old.puller;
  at = λ ahead taken given later r pulls stops at left.
      let k = goes r at.moment at.nodes in (
        called client batches e r,
        (refl, says r at.moment at.nodes),
        record { nodes = record { seats = k.seats; turns = k.turns; has_ended = k.has_ended }; first = at.first; moment = at.moment },
        left,
      );
  done = λ ahead taken given pulls done. (done, refl);
  sound = record { ended = λ is. sound.ended (sym same ∙ is); counted = counted; given = sound.given };
}

-- ------ waiting

pub wait_turns : (script : Scripted) (batch client : ℕ) (r s : Run) → is_some (waits_on client script (replies_of client r)) ≡ true → s ≡ turned batch r → s ≡ after_waiting script batch client r
wait_turns script batch client r s is to = to ∙ sym (by (is_some (waits_on client script (replies_of client r))) is) where
  by : (b : Bool) → b ≡ true → (if b then turned batch r else r) ≡ turned batch r
  by b is = rw is refl

pub wait_none : (script : Scripted) (batch client : ℕ) (r : Run) → is_some (waits_on client script (replies_of client r)) ≡ false → r ≡ after_waiting script batch client r
wait_none script batch client r is = sym (by (is_some (waits_on client script (replies_of client r))) is) where
  by : (b : Bool) → b ≡ false → (if b then turned batch r else r) ≡ r
  by b is = rw is refl

-- ------ calls one after another

replies_called : (client : ℕ) (batches : Batches) (e : Event) (r : Run) → client < length r.replies → replies_of client (called client batches e r) ≡ replies_of client r ++ reply_to client batches e r ∷ []
replies_called client batches e r lt = get_or-set_same r.replies client (replies_of client r ++ reply_to client batches e r ∷ []) [] lt

pub comes_none : (script : Scripted) (batch client line : ℕ) (r : Run) (core : Core) → length r.replies ≡ 8 → IsAfter client script (replies_of client r) core → ComesByCalls script batch client line r r core
comes_none script batch client line r core clients after = record { after = after; clients = clients; others = λ other ne. refl; worked = λ s w. w; begun = no_call r }

pub comes_on : (script : Scripted) (batch client line : ℕ) (first now s : Run) (core next : Core) (e : Event)
    → client < 8 → ComesByCalls script batch client line first now core → next_of_line client script line (replies_of client now) ≡ Some e
    → s ≡ called client (plays_of client script) e (after_waiting script batch client now) → IsAfter client script (replies_of client now ++ reply_to client (plays_of client script) e (after_waiting script batch client now) ∷ []) next
    → ComesByCalls script batch client line first s next
comes_on script batch client line first now s core next e lt comes is to after =
    let waited : Run = after_waiting script batch client now in
    let same : waited.replies ≡ now.replies = waiting_replies script batch client now in
    let long : length waited.replies ≡ 8 = ap length same ∙ comes.clients in
    let those : replies_of client (called client (plays_of client script) e waited) ≡ replies_of client now ++ reply_to client (plays_of client script) e waited ∷ [] =
    replies_called client (plays_of client script) e waited (omega (arith, lt, long)) ∙ ap (λ rs. slice_index_or rs client [] ++ reply_to client (plays_of client script) e waited ∷ []) same in
    subst (λ r. ComesByCalls script batch client line first r next) (sym to) record {
      after = subst (λ rs. IsAfter client script rs next) (sym those) after;
      clients = length-set waited.replies client _ ∙ long;
      others = λ other ne. get_or-set_other waited.replies client other _ [] ne ∙ (ap (λ rs. slice_index_or rs other []) same ∙ comes.others other ne);
      worked = λ t w. comes.worked t (calls now t e is w);
      begun = begun_on script batch client line first now e comes.begun is;
    }

pub none_by : (o : Option Event) → ((x : Event) → o ≡ Some x → ⊥) → o ≡ None
none_by None not = refl
none_by (Some x) not = absurd (not x refl)

pub one_if_small : (b : Bool) → one_if b ≤ 1
one_if_small true = omega arith
one_if_small false = omega arith
