use Rattle.filter_match.proofs.Imports.{not, slice_index, nat_eq, ◌∙◌, ap, sym, arith, w8, list_all, take_all, bitmask_splat, not-not}
use Rattle.filter_match.proofs.Lanes.{mask-none, all-places, all-same}
use Rattle.filter_match.proofs.compared.all_zero.Goals as goal

pub returns : goal.returns
returns c =
    let v = c.args.lanes in
    ap (λ m. nat_eq m 0) (bitmask_splat w8 (λ x y. not (nat_eq x y)) v 16 0 c.fits-lanes.0 (omega arith))
    ∙ mask-none (λ x. not (nat_eq x 0)) v
    ∙ ap (list_all (λ x. not (not (nat_eq x 0)))) (sym (take_all 16 v (omega (arith, c.fits-lanes.0))))
    ∙ all-places (λ x. not (not (nat_eq x 0))) v 16 (omega (arith, c.fits-lanes.0))
    ∙ all-same _ _ 16 (λ i l. not-not (nat_eq (slice_index v i) 0))
