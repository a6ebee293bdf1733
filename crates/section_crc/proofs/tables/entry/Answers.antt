use Rattle.section_crc.proofs.Imports.{◌≡◌, ◌∙◌, ◌+◌, suc, ℕ, ap, fold, arith, after_bit, bits_of, entry_of}
use Rattle.section_crc.proofs.Zeros.{entry-more}
use Rattle.section_crc.proofs.tables.entry.Goals as goal

pub zeros-preserved : goal.zeros-preserved
zeros-preserved c =
    let e : suc c.zeros._i ≡ c.zeros._i + 1 = omega arith in
    c.after_byte-register-in-zeros.ensures ∙ ap (λ (r : ℕ). fold after_bit r (bits_of 0)) c.zeros.invariant ∙ entry-more c.zeros._i c.args.byte c.ranges.byte.fits
    ∙ ap (λ (n : ℕ). entry_of n c.args.byte) e
