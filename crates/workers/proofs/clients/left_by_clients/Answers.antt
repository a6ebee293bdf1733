use Rattle.workers.proofs.Imports.{rules, ◌≡◌, ◌+◌, ℕ, List, [], ◌∷◌, ◌++◌, length, Vec, Global, refl, sym, ap, subst, ◌∙◌, length-append, map-id, YieldsList-end, YieldsList-from_vec, ClientWorker, IsLeftByClients}
use Rattle.dmx_calls.specs.declared.log.Entry.{Entry}
use Rattle.workers.proofs.Lists.{maps_more, gives_more, outcomes_more}
use Rattle.workers.proofs.clients.left_by_clients.Goals as goal

pub workers-preserved : goal.workers-preserved
workers-preserved c =
    let i = c.workers.invariant in
    let w = c.in-Some.worker in
    let those = c.in_ok-copied_outcomes.field-0 in
    let clients : c.push-in-workers.new.self.items ≡ c.workers.clients.items ++ w.client ∷ [] = search rules in
    let logs : c.push-in-workers-2.new.self.items ≡ c.workers.logs.items ++ w.log ∷ [] = search rules in
    let outcomes : c.push.new.self.items ≡ c.workers.outcomes.items ++ those ∷ [] = search rules in
    record {
      clients = gives_more (λ (v : ClientWorker). v.client) c.workers.clients.items c.push-in-workers.new.self.items w.client c.workers.yielded w clients i.clients refl;
      logs = maps_more (λ (log : Vec Entry Global). log.items) (λ (v : ClientWorker). v.log.items) c.workers.logs.items c.push-in-workers-2.new.self.items w.log c.workers.yielded w logs i.logs refl;
      outcomes = ap length outcomes ∙ (length-append c.workers.outcomes.items (those ∷ []) ∙ (ap (λ (n : ℕ). n + 1) i.outcomes ∙ sym (length-append c.workers.yielded (w ∷ []))));
      each = outcomes_more c.workers.yielded w c.workers.outcomes.items c.push.new.self.items those outcomes i.outcomes i.each
          (λ client script replies after. c.in_ok-copied_outcomes.ensures.tied client script replies after);
    }

pub returns : goal.returns
returns c =
    let i = c.workers.invariant in
    let ws : List ClientWorker = c.args.workers.items in
    let b = c.into_iter-worker-iterator.ensures.into_iter_gives in
    let end = YieldsList-end (YieldsList-from_vec {s = c.into_iter-worker-iterator.result} ws b.0 (b.1 ∙ c.args.workers.ok.0)) c.workers.yielded c.workers.worker-iterator c.workers.yielded_by c.next.result c.next.new.self c.in-None.is c.next.ensures.steps in
    let all : c.workers.yielded ≡ ws = sym (map-id c.workers.yielded) ∙ end.0 in
    subst (λ (l : List ClientWorker). IsLeftByClients l (record { clients = c.workers.clients; logs = c.workers.logs; outcomes = c.workers.outcomes })) all
    (record { clients = i.clients; logs = i.logs; outcomes = i.outcomes; each = i.each })
