use Rattle.node_buffer.proofs.Imports.{arith, ◌≡◌, ◌*◌, bit_and, bit_at, and_pow, nat_tests}
use Rattle.node_buffer.proofs.filter.is_oneshot.Goals as goal

pub returns : goal.returns
returns c =
    let flags = c.args.params.now.flags in
    let e : bit_and flags 2 ≡ bit_at flags 1 * 2 = and_pow flags 1 in
    rw e (grind (arith, nat_tests))
