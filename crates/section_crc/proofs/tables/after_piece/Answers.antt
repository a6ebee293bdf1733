use Rattle.section_crc.proofs.Imports.{rules, ◌≡◌, ◌∙◌, ◌-◌, ◌+◌, ◌*◌, ◌/◌, ◌%◌, ◌^◌, ◌<◌, suc, ℕ, List, [], ap, ap₂, bit_xor, fold, get_or, slice_index, arith, sym, refl, take, flat_map, xor_lt, take_all, after_bit, bits_of, entry_of}
use Rattle.section_crc.proofs.Linear.{fold-lt}
use Rattle.section_crc.proofs.Zeros.{zeros, piece-step, fold-more}
use Rattle.section_crc.proofs.tables.after_piece.Goals as goal

pub bytes-init : goal.bytes-init
bytes-init g c = refl

pub bytes-preserved : goal.bytes-preserved
bytes-preserved g c =
    let i = c.bytes.i in
    let piece = c.args.piece.now in
    let rows = c.args.rows.now in
    let rest = c.bytes.rest in
    let sum = c.bytes.sum in
    let n = g.row.K - 1 - i in
    let within : i < g.row.K = c.bytes-test.true in
    let before : g.row.K - i ≡ suc n = omega arith in
    let behind : g.row.K - (i + 1) ≡ n = omega arith in
    let so-far = fold after_bit c.args.register (flat_map bits_of (take i piece)) in
    let rest-fits : rest < 2 ^ 32 = search rules in
    let fits : c.args.register < 2 ^ 32 = search rules in
    let byte : slice_index piece i < 2 ^ 8 = search rules in
    let top : bit_xor (rest / 2 ^ 24) (slice_index piece i) < 2 ^ 8 = xor_lt 8 (rest / 2 ^ 24) (slice_index piece i) (omega arith) byte in
    let inv : zeros (suc n) so-far ≡ bit_xor sum (zeros (suc n) rest) = rw before at c.bytes.invariant in
    let entry : get_or (get_or rows n []) c.from.result 0 ≡ entry_of n (bit_xor (rest / 2 ^ 24) (slice_index piece i)) =
    ap (λ (k : ℕ). get_or (get_or rows n []) k 0) c.from.ensures ∙ c.requires n (omega (arith, c.told-rows)) (bit_xor (rest / 2 ^ 24) (slice_index piece i)) top in
    let low : rest * 256 % 2 ^ 32 ≡ rest % 2 ^ 24 * 2 ^ 8 = omega arith in
    ap (λ (m : ℕ). zeros m (fold after_bit c.args.register (flat_map bits_of (take (i + 1) piece)))) behind
    ∙ ap (zeros n) (sym (fold-more c.args.register piece i (omega (arith, c.told-piece))))
    ∙ piece-step n sum rest so-far (slice_index piece i) rest-fits (fold-lt c.args.register (flat_map bits_of (take i piece)) fits) byte inv
    ∙ ap (λ (k : ℕ). bit_xor (bit_xor sum k) (zeros n (rest % 2 ^ 24 * 2 ^ 8))) (sym entry)
    ∙ ap (bit_xor (bit_xor sum (get_or (get_or rows n []) c.from.result 0))) (ap₂ zeros (sym behind) (sym low))

pub returns : goal.returns
unfolding zeros
returns g c =
    let none : g.row.K - c.bytes.i ≡ 0 = omega (arith, c.bytes-test.false) in
    let inv : zeros 0 (fold after_bit c.args.register (flat_map bits_of (take c.bytes.i c.args.piece.now))) ≡ bit_xor c.bytes.sum (zeros 0 c.bytes.rest) = rw none at c.bytes.invariant in
    sym inv ∙ ap (λ (l : List ℕ). fold after_bit c.args.register (flat_map bits_of l)) (take_all c.bytes.i c.args.piece.now (omega (arith, c.told-piece, c.bytes-test.false)))
