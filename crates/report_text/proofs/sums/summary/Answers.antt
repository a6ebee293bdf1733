use Rattle.report_text.proofs.Imports.{◌∙◌, ◌+◌, ◌++◌, ap, ap₂, length, codes, decimal, sum_by, bytes_read, overflows, sums_text}
use Rattle.report_text.proofs.Texts.{behind}
use Rattle.report_text.proofs.Adding.{last-is-rest, sum-whole, same-sums}
use Rattle.report_text.proofs.sums.summary.Goals as goal

pub returns : goal.returns
returns c =
    let hs = c.args.histories.now in
    let many = c.node_sums-dvr.ensures.nodes in
    let demux = c.demux_sums-demux.ensures.sums in
    let dvr = c.node_sums-dvr.ensures.sums in
    let all = c.added-all.ensures in
    behind c.new-out.result.items (codes "packets=" ++ decimal c.args.head.now.tally.packets) _ c.in_ok-add_field.ensures.items c.in_ok-add_line.ensures
    ∙ ap (λ l. l ++ sums_text c.args.head.now.tally.packets c.added-all.result.entries c.demux_sums-demux.result.bytes c.node_sums-dvr.result.bytes c.added-all.result.overflows) c.new-out.ensures.items
    ∙ same-sums c.args.head.now.tally.packets
    (all.entries ∙ ap₂ (λ x y. x + y) demux.0 dvr.0 ∙ sum-whole length hs many)
    demux.1
    (dvr.1 ∙ ap (sum_by bytes_read) (last-is-rest hs many))
    (all.overflows ∙ ap₂ (λ x y. x + y) demux.2 dvr.2 ∙ sum-whole overflows hs many)
