use Rattle.node_core.proofs.Imports.{arith, ◌≡◌, ◌*◌, bit_and, bit_at, and_pow, nat_tests}
use Rattle.node_core.proofs.filter.starts_at_once.Goals as goal

pub returns : goal.returns
returns c =
    let flags = c.args.flags in
    let e : bit_and flags 4 ≡ bit_at flags 2 * 4 = and_pow flags 2 in
    rw e (grind (arith, nat_tests))
