use Rattle.ts_watch.proofs.Imports.{◌≡◌, ℕ, List, Watched, rows_below}
use Rattle.ts_watch.proofs.watch.Watch.rows.Given as goal

abbrev pub invariant-pids : goal.invariant-pids
invariant-pids l = (packets : List (List ℕ)) → Watched packets l.self → l.rows.items ≡ rows_below l.pid packets
