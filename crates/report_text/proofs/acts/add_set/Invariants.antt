use Rattle.report_text.proofs.Imports.{◌≡◌, ◌++◌, ◌+◌, ◌*◌, ◌≤◌, vec_len, vec_capacity, flat_map, next_pid_text}
use Rattle.report_text.proofs.Texts.{behind_first}
use Rattle.report_text.proofs.acts.add_set.Given as goal

abbrev pub invariant-pids : goal.invariant-pids
invariant-pids l = record {
  items : l.out.items ≡ l.initial.out.items ++ flat_map next_pid_text (behind_first l.place l.pids);
  few : vec_len l.out ≤ vec_len l.initial.out + 21 * l.place;
  room : vec_capacity l.initial.out ≤ vec_capacity l.out;
}
