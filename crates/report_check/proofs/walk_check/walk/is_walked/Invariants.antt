use Rattle.report_check.proofs.Imports.{◌≡◌, ◌≤◌, ◌+◌, ℕ, List, [], ◌++◌, length, map, DEMUX_NODES, told_entry, LogEntry, Scripted, Core, IsAfter, replies, IsRest, CanRest, queues_in, left_on}
use Rattle.report_check.proofs.walk_check.walk.is_walked.Given as goal

-- After some calls the client can go on as it could at the beginning, and a walk from here is one from there.
pub record IsOn (client : ℕ) (script : Scripted) (before now : List (List LogEntry)) (c : Core) : Type 0 where
  pub made : List LogEntry
  pub after : IsAfter client script (replies made) c
  pub back : (later : List LogEntry) → IsRest client script (replies made) now later → IsRest client script [] before (made ++ later)
  pub on : CanRest client script [] before → CanRest client script (replies made) now

abbrev pub invariant-walk : goal.invariant-walk
invariant-walk l = record {
  nodes : length l.nodes.items ≡ DEMUX_NODES + 1;
  few : l.core.step + left_on (map (λ h. map told_entry h.now) l.nodes.items) ≤ l.fn.core.step + left_on (map (λ h. map told_entry h.now) l.fn.nodes.items);
  on : (script : Scripted) → IsAfter l.client script [] l.fn.core
      → IsOn l.client script (queues_in l.client (map (λ h. map told_entry h.now) l.fn.nodes.items)) (queues_in l.client (map (λ h. map told_entry h.now) l.nodes.items)) l.core;
}

abbrev pub decreases-walk : goal.decreases-walk
decreases-walk l = left_on (map (λ h. map told_entry h.now) l.nodes.items)
