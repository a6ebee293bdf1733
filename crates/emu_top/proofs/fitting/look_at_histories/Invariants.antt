use Rattle.emu_top.proofs.Imports.{◌≡◌, ◌<◌, ℕ, List, length, Some, slice_get, All, LogEntry, IsEntryInRange}
use Rattle.emu_top.proofs.fitting.look_at_histories.Given as goal

abbrev pub invariant-nodes : goal.invariant-nodes
invariant-nodes l = record {
  many : 0 < l.node → length l.histories ≡ 33;
  entries : (k : ℕ) (h : List LogEntry) → k < l.node → slice_get l.histories k ≡ Some h → All IsEntryInRange h;
}
