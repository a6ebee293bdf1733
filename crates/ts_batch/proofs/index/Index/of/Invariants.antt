use Rattle.ts_batch.proofs.Imports.{◌≡◌, take, true, All, pid_of, ALL_PACKETS, has_run, IsRun}
use Rattle.ts_batch.proofs.index.Index.of.Given as goal

abbrev pub invariant-packets : goal.invariant-packets
invariant-packets l = record {
  runs : All (IsRun l.packets l.index.places.items) l.index.runs.items;
  all : has_run ALL_PACKETS l.index.runs.items ≡ true;
  each : All (λ packet. has_run (pid_of packet) l.index.runs.items ≡ true) (take l.packet-index l.packets);
}
