use Rattle.std.proofs.Common.{◌≡◌, ℕ, suc, ◌+◌, ◌^◌, ◌*◌, ◌%◌, ◌∙◌, bit_xor, sym, ap, refl, arith}
use Rattle.section_crc.proofs.Linear.{shifted}
use Rattle.section_crc.proofs.Bits.{shifted_by, eight-bits}
use Rattle.section_crc.proofs.bitwise.after_byte.Goals as goal

pub bits-init : goal.bits-init
unfolding shifted_by
bits-init c = refl

pub bits-preserved : goal.bits-preserved
unfolding shifted_by
bits-preserved c =
    let e : suc c.bits._i ≡ c.bits._i + 1 = omega arith in
    c.after_zero-after.ensures ∙ ap shifted c.bits.invariant ∙ ap (λ (n : ℕ). shifted_by n (bit_xor c.args.register (c.from.result * 2 ^ 24 % 2 ^ 32))) e

pub returns : goal.returns
returns c =
    let e : c.bits._i ≡ 8 = omega (arith, c.bits.auto._i-end, c.bits-test.false) in
    let top : c.from.result * 2 ^ 24 % 2 ^ 32 ≡ c.args.byte * 2 ^ 24 = omega (arith, c.from.ensures, c.ranges.byte.fits) in
    c.bits.invariant ∙ ap (λ (n : ℕ). shifted_by n (bit_xor c.args.register (c.from.result * 2 ^ 24 % 2 ^ 32))) e
    ∙ ap (λ (n : ℕ). shifted_by 8 (bit_xor c.args.register n)) top ∙ sym (eight-bits c.args.register c.args.byte c.ranges.register.fits c.ranges.byte.fits)
