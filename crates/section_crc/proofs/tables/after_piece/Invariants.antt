use Rattle.section_crc.proofs.Imports.{◌≡◌, ◌-◌, take, fold, bit_xor, flat_map, after_bit, bits_of}
use Rattle.section_crc.proofs.Zeros.{zeros}
use Rattle.section_crc.proofs.tables.after_piece.Given as goal

-- what the bytes that still come make of the register is the sum so far and what they make of its rest
abbrev pub invariant-bytes : goal.invariant-bytes
invariant-bytes g l = zeros (l.i-end - l.i) (fold after_bit l.register (flat_map bits_of (take l.i l.piece))) ≡ bit_xor l.sum (zeros (l.i-end - l.i) l.rest)
