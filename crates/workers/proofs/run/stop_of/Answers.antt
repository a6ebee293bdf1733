use Rattle.workers.proofs.Imports.{◌≡◌, ◌+◌, ◌∷◌, ◌++◌, [], List, take, sym, ap, ◌∙◌, subst, take_more, take_all, ClientWorker, StopsBy}
use Rattle.workers.proofs.Leaving.{stops_none, stops_more}
use Rattle.workers.proofs.run.stop_of.Goals as goal

pub clients-init : goal.clients-init
clients-init c = stops_none c.args.feeder

pub clients-preserved : goal.clients-preserved
clients-preserved c =
    let i = c.clients.client-index in let all = c.args.clients.now in let w = c.client-item.result in
    let now : take (i + 1) all ≡ take i all ++ w ∷ [] = take_more all i w c.clients-test.true ∙ ap (λ (x : ClientWorker). take i all ++ x ∷ []) (sym c.client-item.is) in
    subst (λ (ws : List ClientWorker). StopsBy c.args.feeder ws c.graver-stop.result) (sym now) (stops_more c.args.feeder (take i all) w c.clients.stop c.graver-stop.result c.clients.invariant c.graver-stop.ensures)

pub returns : goal.returns
returns c = subst (λ (ws : List ClientWorker). StopsBy c.args.feeder ws c.clients.stop) (take_all c.clients.client-index c.args.clients.now c.clients-test.false) c.clients.invariant
