use Rattle.report_text.proofs.Imports.{◌≡◌, ◌∙◌, Some, map, length, refl, ap, arith, slice_get, option_map, length-map, slice_get_read, slice_get-map, client_text, clients_text}
use Rattle.report_text.proofs.Pieces.{some_nothing, adds_as, part_as, on_any_err}
use Rattle.report_text.proofs.Wholes.{writes_more, breaks_at, writes_all}
use Rattle.report_text.proofs.report.write_clients.Goals as goal

pub clients-init : goal.clients-init
clients-init g c = record { adds = some_nothing _ refl; steady = refl }

pub clients-preserved : goal.clients-preserved
clients-preserved g c =
    let outcomes = c.args.outcomes.now in
    let read : slice_get outcomes c.clients.client ≡ Some c.index-outcomes-client.result = slice_get_read outcomes (length outcomes) c.clients.client c.index-outcomes-client.result (omega arith) c.clients-test.true c.index-outcomes-client.is in
    let here : slice_get (map (λ o. o.items) outcomes) c.clients.client ≡ Some c.index-outcomes-client.result.items = slice_get-map (λ o. o.items) outcomes c.clients.client ∙ ap (option_map (λ o. o.items)) read in
    record {
      adds = writes_more client_text clients_text (λ n. refl, λ n x xs. refl) (map (λ o. o.items) outcomes) c.clients.client c.index-outcomes-client.result.items here c.clients.invariant.adds
          (adds_as (ap (client_text c.clients.client) c.deref.ensures.value) c.in_ok-write_client.ensures.adds);
      steady = let k = c.in_ok-write_client.ensures.cause in omega arith;
    }

pub returns-in_err-write_client-clause-part : goal.returns-in_err-write_client-clause-part
returns-in_err-write_client-clause-part g c =
    let outcomes = c.args.outcomes.now in
    let read : slice_get outcomes c.clients.client ≡ Some c.index-outcomes-client.result = slice_get_read outcomes (length outcomes) c.clients.client c.index-outcomes-client.result (omega arith) c.clients-test.true c.index-outcomes-client.is in
    let here : slice_get (map (λ o. o.items) outcomes) c.clients.client ≡ Some c.index-outcomes-client.result.items = slice_get-map (λ o. o.items) outcomes c.clients.client ∙ ap (option_map (λ o. o.items)) read in
    on_any_err c.from_residual.result (breaks_at client_text clients_text (λ n. refl, λ n x xs. refl) (map (λ o. o.items) outcomes) c.clients.client c.index-outcomes-client.result.items here c.clients.invariant.adds
    (part_as (ap (client_text c.clients.client) c.deref.ensures.value) c.in_err-write_client.ensures.part))

pub returns-clause-adds : goal.returns-clause-adds
returns-clause-adds g c =
    writes_all client_text clients_text (λ n. refl, λ n x xs. refl) (map (λ o. o.items) c.args.outcomes.now) c.clients.client (omega (arith, length-map c.args.outcomes.now (λ o. o.items), c.clients-test.false)) c.clients.invariant.adds
