use Rattle.section_crc.proofs.Imports.{◌≡◌, length, fold, take, flat_map, after_bit, bits_of}
use Rattle.section_crc.proofs.tables.crc_by.Given as goal

-- what is left makes of the register what all bytes make of the ones
abbrev pub invariant-pieces : goal.invariant-pieces
invariant-pieces g l = fold after_bit l.register (flat_map bits_of l.left) ≡ fold after_bit 0xFFFFFFFF (flat_map bits_of l.bytes)

abbrev pub decreases-pieces : goal.decreases-pieces
decreases-pieces g l = length l.left

abbrev pub invariant-bytes : goal.invariant-bytes
invariant-bytes g l = l.register ≡ fold after_bit l.initial.register (flat_map bits_of (take l.byte-index l.byte-items))
