use Rattle.std.proofs.Common.{◌≡◌}
use Rattle.section_crc.proofs.Bits.{shifted_by}
use Rattle.section_crc.proofs.bitwise.after_byte.Given as goal

abbrev pub invariant-bits : goal.invariant-bits
invariant-bits l = l.after ≡ shifted_by l._i l.initial.after
