use Rattle.workers.proofs.Imports.{rules, ◌≡◌, ◌+◌, ℕ, List, [], ◌∷◌, ◌++◌, length, map, None, refl, sym, ap, ◌∙◌, arith, length-append, map-append, length-map, YieldsList-turn, YieldsList-from_vec, Caller, ClientWorker, IsFreshWorker}
use Rattle.workers.proofs.Lists.{each_more}
use Rattle.workers.proofs.clients.workers_of.Goals as goal

pub overflow_add-number : goal.overflow_add-number
overflow_add-number c =
    let i = c.callers.invariant in
    let ds : List Caller = c.args.clients.items in
    let b = c.into_iter-client-iterator.ensures.into_iter_gives in
    let t = YieldsList-turn (YieldsList-from_vec {s = c.into_iter-client-iterator.result} ds b.0 (b.1 ∙ c.args.clients.ok.0)) c.callers.yielded c.callers.client-iterator c.callers.yielded_by c.next.result c.next.new.self c.in-Some.client c.in-Some.is c.next.ensures.steps in
    let below = t.0 in
    let size : length c.callers.workers.items ≡ length c.callers.yielded = sym (length-map c.callers.workers.items (λ (v : ClientWorker). v.client)) ∙ ap length i.are in
    omega (arith, below, size, i.number, c.requires, c.clients.ensures.count, c.clients.ensures.bound)

pub returns-clause-numbered : goal.returns-clause-numbered
returns-clause-numbered c = c.clients.ensures.known.numbered

pub callers-preserved : goal.callers-preserved
callers-preserved c =
    let i = c.callers.invariant in
    let w : ClientWorker = record { client = c.in-Some.client; who = c.callers.number + 1; core = c.in_ok-core.core; log = c.new-in-callers.result; stop = None } in
    let now : c.push.new.self.items ≡ c.callers.workers.items ++ w ∷ [] = search rules in
    record {
      are = ap (map (λ (v : ClientWorker). v.client)) now ∙ (map-append (λ (v : ClientWorker). v.client) c.callers.workers.items (w ∷ []) ∙ ap (λ (l : List Caller). l ++ w.client ∷ []) i.are);
      number = ap (λ (n : ℕ). n + 1) i.number ∙ (sym (length-append c.callers.workers.items (w ∷ [])) ∙ sym (ap length now));
      each = each_more (IsFreshWorker c.args.script.now) c.callers.workers.items c.push.new.self.items w c.callers.number now i.number i.each
          (record { who = refl; core = c.in_ok-core.ensures.after; log = c.new-in-callers.ensures.items });
    }
