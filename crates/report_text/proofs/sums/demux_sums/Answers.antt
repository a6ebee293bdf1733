use Rattle.report_text.proofs.Imports.{◌∙◌, ◌+◌, ap₂, sym, length, arith, bytes_read, overflows}
use Rattle.report_text.proofs.Adding.{sum-more}
use Rattle.report_text.proofs.sums.demux_sums.Goals as goal

pub nodes-preserved : goal.nodes-preserved
nodes-preserved c =
    let hs = c.args.histories.now in
    let i = c.nodes.node in
    let old = c.nodes.invariant in
    let one = c.node_sums.ensures in
    let sums = c.added-sums.ensures in
    let below = old.1 in let bound = one.bound in (
      (
        sums.entries ∙ ap₂ (λ x y. x + y) old.0.0 one.sums.0 ∙ sym (sum-more length hs i),
        sums.bytes ∙ ap₂ (λ x y. x + y) old.0.1 one.sums.1 ∙ sym (sum-more bytes_read hs i),
        sums.overflows ∙ ap₂ (λ x y. x + y) old.0.2 one.sums.2 ∙ sym (sum-more overflows hs i),
      ),
      (omega (arith, sums.entries, below.0, bound.0), omega (arith, sums.bytes, below.1, bound.1), omega (arith, sums.overflows, below.2, bound.2)),
    )
