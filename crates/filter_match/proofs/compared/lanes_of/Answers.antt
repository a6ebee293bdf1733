use Rattle.filter_match.proofs.Imports.{◌≡◌, ◌≢◌, ◌+◌, ◌∙◌, zero, suc, slice_index, arith, ap, get_or-set_same, get_or-set_other, get_or-chunk, length-chunk, chunk, place_of}
use Rattle.filter_match.proofs.Bytes.{place-more}
use Rattle.filter_match.proofs.compared.lanes_of.Goals as goal

pub returns-clause-each : goal.returns-clause-each
returns-clause-each c zero h = get_or-set_same (chunk 2 16 c.args.section.now) 0 _ 0 (omega (arith, length-chunk 2 16 c.args.section.now c.requires))
returns-clause-each c (suc i) h =
    let other : suc i ≢ 0 = λ e. omega (arith, e) in
    let place : 2 + suc i ≡ place_of (suc i) = omega (arith, place-more i) in
    get_or-set_other (chunk 2 16 c.args.section.now) 0 (suc i) _ 0 other
    ∙ get_or-chunk 2 16 c.args.section.now (suc i) 0 h ∙ ap (slice_index c.args.section.now) place
