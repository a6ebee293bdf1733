use Rattle.filter_match.proofs.Imports.{rules, arith, ◌≡◌, negates_at}
use Rattle.filter_match.proofs.Bytes.{reach-none, reach-unmasked, reach-masked, any-none, any-yes, any-no, negates-yes, negates-no, place-rises}
use Rattle.filter_match.proofs.compiled.Compiled.of.Goals.{then-filter-i-ne0, else-filter-i-ne0, then-filter-i-ne0-2, else-filter-i-ne0-2}
use Rattle.filter_match.proofs.compiled.Compiled.of.Goals as goal

pub masks-init : goal.masks-init
masks-init c = record { reach = reach-none _; ordered = search rules; negated = any-none _ }

pub masks-preserved : goal.masks-preserved
masks-preserved c =
    let f = c.args.filter.now in
    let i = c.masks.i in
    let h = c.masks.invariant in
    record {
      reach = elim c.if-filter-i-ne0.branch [
        | then-filter-i-ne0 w ↦ rw (w.needed-is, w.place_of-needed.ensures) (reach-masked f i c.masks.needed h.reach h.ordered w.if-filter-i-ne0.true)
        | else-filter-i-ne0 w ↦ rw w.needed-is (reach-unmasked f i c.masks.needed h.reach w.if-filter-i-ne0.false)
      ];
      ordered = elim c.if-filter-i-ne0.branch [
        | then-filter-i-ne0 w ↦ rw (w.needed-is, w.place_of-needed.ensures) (omega (arith, place-rises i))
        | else-filter-i-ne0 w ↦ rw w.needed-is (omega (arith, place-rises i, h.ordered))
      ];
      negated = elim c.if-filter-i-ne0-2.branch [
        | then-filter-i-ne0-2 w ↦ rw w.negates-is (any-yes (negates_at f) i (negates-yes f i w.if-filter-i-ne0-2.true))
        | else-filter-i-ne0-2 w ↦ rw w.negates-is (any-no (negates_at f) i c.masks.negates h.negated (negates-no f i w.if-filter-i-ne0-2.false))
      ];
    }

pub invariant_of-result : goal.invariant_of-result
invariant_of-result c =
    let e : c.masks.i ≡ 16 = search rules in
    let h = c.masks.invariant in
    record { reach = rw e at h.reach; negated = rw e at h.negated }
