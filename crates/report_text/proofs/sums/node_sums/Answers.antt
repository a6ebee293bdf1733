use Rattle.report_text.proofs.Imports.{◌≡◌, ◌∙◌, ◌∷◌, [], ap, sym, map, take, drop, length, cond, sum_by, refl, told_entry, feeder_acts, woven, data_bytes, is_overflow, bytes_read, overflows}
use Rattle.report_text.proofs.Adding.{just-one, sum-one, sum-woven, entries-woven}
use Rattle.report_text.proofs.sums.node_sums.Goals as goal

pub returns-clause-sums : goal.returns-clause-sums
returns-clause-sums c =
    let feeding = c.node.result.0.now in
    let calls = c.node.result.1.now in
    let h = woven c.args.node (feeder_acts feeding) (map told_entry calls) in
    let one : take 1 (drop c.args.node c.args.histories.now) ≡ h ∷ [] = just-one c.args.histories.now c.args.node h c.node.ensures.history in (
      entries-woven c.args.node feeding calls ∙ sym (sum-one length h) ∙ ap (sum_by length) (sym one),
      c.bytes_read.ensures.value ∙ sym (sum-woven data_bytes refl c.args.node (feeder_acts feeding) (map told_entry calls)) ∙ sym (sum-one bytes_read h) ∙ ap (sum_by bytes_read) (sym one),
      c.overflows.ensures.value ∙ sym (sum-woven (λ r. cond (is_overflow r) 1 0) refl c.args.node (feeder_acts feeding) (map told_entry calls)) ∙ sym (sum-one overflows h) ∙ ap (sum_by overflows) (sym one),
    )
