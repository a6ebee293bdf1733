use Rattle.report_read.proofs.Imports.{◌≡◌, ◌∙◌, ◌∷◌, [], rules, arith, map, true, Some, codes, map-append, All-push, All, begins_with, client_in, IsOutcomeInRange}
use Rattle.report_read.proofs.Many.{many_on}
use Rattle.report_read.proofs.clients.read_clients.Goals as goal

pub clients-preserved : goal.clients-preserved
clients-preserved c =
    let read : client_in c.clients.bytes ≡ Some (c.in-Some.outcomes.items, c.read_client.new.bytes) = rw c.in-Some.is at c.in_ok-outcomes.ensures.value in
    let all : All IsOutcomeInRange c.in-Some.outcomes.items = rw c.in-Some.is at c.in_ok-outcomes.ensures.range in
    let begun : begins_with (codes "client ") c.clients.bytes ≡ true = search rules in
    let on = many_on (begins_with (codes "client ")) client_in c.clients.left c.clients.bytes c.read_client.new.bytes (map (λ o. o.items) c.clients.clients.items) c.in-Some.outcomes.items (omega arith) begun read in
    record {
      so_far = rw (c.in_ok-push.ensures.items, map-append (λ o. o.items) c.clients.clients.items (c.in-Some.outcomes ∷ [])) (c.clients.invariant.so_far ∙ on);
      range = rw (c.in_ok-push.ensures.items, map-append (λ o. o.items) c.clients.clients.items (c.in-Some.outcomes ∷ [])) (All-push (All IsOutcomeInRange) (map (λ o. o.items) c.clients.clients.items) c.in-Some.outcomes.items c.clients.invariant.range all);
    }
