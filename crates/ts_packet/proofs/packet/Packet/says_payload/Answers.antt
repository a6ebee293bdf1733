use Rattle.ts_packet.proofs.Imports.{arith, ◌≡◌, ◌*◌, slice_index, bit_and, bit_at, and_pow, nat_tests}
use Rattle.ts_packet.proofs.packet.Packet.says_payload.Goals as goal

pub returns : goal.returns
returns c =
    let byte = slice_index c.self.inside.bytes 3 in
    let e : bit_and byte 16 ≡ bit_at byte 4 * 16 = and_pow byte 4 in
    rw (← c.self.view_is, e) (grind (arith, nat_tests))
