use Rattle.report_text.proofs.Imports.{◌≡◌, ◌∙◌, ◌++◌, Some, map, length, refl, ap, arith, slice_get, option_map, slice_get_read, slice_get-map, client_text, clients_text}
use Rattle.report_text.proofs.Wholes.{told-more}
use Rattle.report_text.proofs.whole.add_clients.Goals as goal

pub clients-preserved : goal.clients-preserved
clients-preserved c =
    let outcomes = c.args.outcomes.now in
    let read : slice_get outcomes c.clients.client ≡ Some c.index-outcomes-client.result = slice_get_read outcomes (length outcomes) c.clients.client c.index-outcomes-client.result (omega arith) c.clients-test.true c.index-outcomes-client.is in
    told-more client_text clients_text (λ n. refl, λ n x xs. refl) (map (λ o. o.items) outcomes) c.args.out.now.items c.clients.client c.index-outcomes-client.result.items c.clients.out.items c.add_client.new.out.items
    (slice_get-map (λ o. o.items) outcomes c.clients.client ∙ ap (option_map (λ o. o.items)) read) c.clients.invariant
    (c.in_ok-add_client.ensures ∙ ap (λ o. c.clients.out.items ++ client_text c.clients.client o) c.deref.ensures.value)
