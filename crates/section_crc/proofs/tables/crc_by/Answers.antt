use Rattle.section_crc.proofs.Imports.{◌∙◌, ℕ, List, ap, ap₂, fold, slice_index, refl, flat_map, take_all, after_bit, bits_of, crc}
use Rattle.section_crc.proofs.Zeros.{fold-more, fold-cut}
use Rattle.section_crc.proofs.tables.crc_by.Goals as goal

pub pieces-preserved : goal.pieces-preserved
pieces-preserved g c =
    let cut = c.in-Some.ensures.cases in
    ap₂ (λ (r : ℕ) (l : List ℕ). fold after_bit r (flat_map bits_of l))
    (c.after_piece-register.ensures ∙ ap (λ (p : List ℕ). fold after_bit c.pieces.register (flat_map bits_of p)) cut.0) cut.1
    ∙ fold-cut c.pieces.register g.row.K c.pieces.left.now ∙ c.pieces.invariant

pub bytes-init : goal.bytes-init
bytes-init g c = refl

pub bytes-preserved : goal.bytes-preserved
bytes-preserved g c =
    let left = c.pieces.left.now in
    let i = c.bytes.byte-index in
    c.by_entry-register.ensures ∙ ap (λ (r : ℕ). fold after_bit r (bits_of (slice_index left i))) c.bytes.invariant
    ∙ fold-more c.pieces.register left i c.bytes-test.true

pub returns : goal.returns
unfolding crc
returns g c =
    c.bytes.invariant ∙ ap (λ (l : List ℕ). fold after_bit c.pieces.register (flat_map bits_of l)) (take_all c.bytes.byte-index c.pieces.left.now c.bytes-test.false)
    ∙ c.pieces.invariant
