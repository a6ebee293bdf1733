use Rattle.report_check.proofs.Imports.{◌≡◌, ◌∙◌, [], List, ℕ, map, sym, subst, slice_index_or, Dvr, AreFewPackets}
use Rattle.report_check.proofs.Players.{at_caller, are_few}
use Rattle.report_check.proofs.history_check.calls.source.Goals as goal

pub returns-in-Some-clause-few : goal.returns-in-Some-clause-few
returns-in-Some-clause-few c =
    let here = at_caller c.args.played.now c.args.who c.in-Some.packets.now c.in-Some.ensures.lookup.3.0 c.in-Some.ensures.lookup.1 in
    let same : c.as_slice.result.now ≡ slice_index_or (map (λ p. p.items) c.args.played.now) c.args.who [] = c.as_slice.ensures.value ∙ sym here in
    subst (λ (packets : List (List ℕ)). AreFewPackets packets) (sym same) (are_few c.args.stream.now (map (λ p. p.items) c.args.played.now) c.args.who Dvr c.requires.stream c.requires.played)
