use Rattle.std.proofs.Common.{sym, arith}
use Rattle.section_crc.proofs.Linear.{shift_low, shift_high}
use Rattle.section_crc.proofs.bitwise.after_zero.Goals as goal

pub returns-then-register-eq0 : goal.returns-then-register-eq0
returns-then-register-eq0 c = sym (shift_low c.args.register (omega (arith, c.if-register-eq0.true)))

pub returns-else-register-eq0 : goal.returns-else-register-eq0
returns-else-register-eq0 c = sym (shift_high c.args.register (omega (arith, c.if-register-eq0.false)) c.ranges.register.fits)
