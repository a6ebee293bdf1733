use Rattle.ts_packet.proofs.Imports.{arith, ◌≡◌, ◌*◌, slice_index, bit_and, bit_at, and_pow, nat_tests}
use Rattle.ts_packet.proofs.packet.Packet.unit_start.Goals as goal

pub returns : goal.returns
returns c =
    let byte = slice_index c.self.inside.bytes 1 in
    let e : bit_and byte 64 ≡ bit_at byte 6 * 64 = and_pow byte 6 in
    rw (← c.self.view_is, e) (grind (arith, nat_tests))
