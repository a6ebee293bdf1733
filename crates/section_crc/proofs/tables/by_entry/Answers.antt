use Rattle.section_crc.proofs.Imports.{◌≡◌, ◌<◌, ◌*◌, ◌/◌, ◌%◌, ◌^◌, bit_xor, sym, arith, xor_lt}
use Rattle.section_crc.proofs.Bits.{byte-by-entry}
use Rattle.section_crc.proofs.tables.by_entry.Goals as goal

pub returns : goal.returns
returns c =
    let r = c.args.register in
    let low : r * 256 % 2 ^ 32 ≡ r % 2 ^ 24 * 2 ^ 8 = omega arith in
    let top : bit_xor (r / 2 ^ 24) c.args.byte < 2 ^ 8 = xor_lt 8 (r / 2 ^ 24) c.args.byte (omega (arith, c.ranges.register.fits)) c.ranges.byte.fits in
    rw (c.from.ensures, low, c.requires _ top) (sym (byte-by-entry r c.args.byte c.ranges.register.fits c.ranges.byte.fits))
