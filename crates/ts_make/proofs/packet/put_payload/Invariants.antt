use Rattle.std.proofs.Common.{◌≡◌, ◌++◌}
use Rattle.ts_make.specs.Made.{payload}
use Rattle.ts_make.proofs.packet.put_payload.Given as goal

abbrev pub invariant-bytes : goal.invariant-bytes
invariant-bytes l = l.out.items ≡ l.fn.out.items ++ payload l.place l.j
