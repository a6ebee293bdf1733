use Rattle.report_check.proofs.Imports.{◌≡◌, ◌<◌, ℕ, List, [], Bor, get_or, ToldEntry}
use Rattle.report_check.proofs.Queues.{queue}
use Rattle.report_check.proofs.walk_check.queue.is_none_left.Given as goal

abbrev pub invariant-nodes : goal.invariant-nodes
invariant-nodes l = (k : ℕ) → k < l.entries-index → (d : Bor (List ToldEntry)) → queue l.client (get_or l.nodes k d) ≡ []
