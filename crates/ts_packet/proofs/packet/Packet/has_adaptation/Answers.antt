use Rattle.ts_packet.proofs.Imports.{arith, ◌≡◌, ◌*◌, slice_index, bit_and, bit_at, and_pow, nat_tests}
use Rattle.ts_packet.proofs.packet.Packet.has_adaptation.Goals as goal

pub returns : goal.returns
returns c =
    let byte = slice_index c.self.inside.bytes 3 in
    let e : bit_and byte 32 ≡ bit_at byte 5 * 32 = and_pow byte 5 in
    rw (← c.self.view_is, e) (grind (arith, nat_tests))
