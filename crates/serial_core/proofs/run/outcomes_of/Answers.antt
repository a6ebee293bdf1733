use Rattle.serial_core.proofs.Imports.{sym, ap, subst, ◌∙◌, ◌<◌, [], ◌∷◌, ◌++◌, length, map, arith, range_with_len, map-append, map-range_with_len_more, Core, IsAfter, outcomes, replies_of}
use Rattle.serial_core.proofs.run.outcomes_of.Goals as goal

pub cores-preserved : goal.cores-preserved
cores-preserved c script r after =
    let i = c.cores.core-index in
    let lt : i < length c.args.cores.now = omega (arith, c.cores-test.true, c.cores.auto.core-index-end) in
    let here : IsAfter i script (replies_of i r) c.core-item.result = subst (λ (x : Core). IsAfter i script (replies_of i r) x) (sym c.core-item.is) (after i c.core-item.result lt) in
    let those = c.in_ok-copied_outcomes.ensures.tied i script (replies_of i r) here in
    ap (map (λ those. those.items)) c.in_ok-push.ensures.items
    ∙ (map-append (λ those. those.items) c.cores.all.items _
    ∙ (ap (λ l. l ++ c.in_ok-copied_outcomes.field-0.items ∷ []) (c.cores.invariant script r after)
    ∙ (ap (λ o. map (λ client. outcomes client script (replies_of client r)) (range_with_len 0 i) ++ o ∷ []) those
    ∙ sym (map-range_with_len_more (λ client. outcomes client script (replies_of client r)) 0 i i (omega arith)))))
