use Rattle.adapter.proofs.Imports.{◌≡◌, vec_len, AreFreshRows}
use Rattle.adapter.proofs.making.build.Given as goal

abbrev pub invariant-nodes : goal.invariant-nodes
invariant-nodes l = (vec_len l.locks ≡ l.node) × AreFreshRows (λ r. r.items) l.fn.callers l.locks.items l.rows
