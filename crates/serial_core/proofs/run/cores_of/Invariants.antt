use Rattle.serial_core.proofs.Imports.{◌≡◌, ◌<◌, ℕ, [], length, Core, IsAfter}
use Rattle.std.proofs.Common.{slice_index_or}
use Rattle.std.specs.Prelude.{All}
use Rattle.serial_core.proofs.run.cores_of.Given as goal

abbrev pub invariant-clients : goal.invariant-clients
invariant-clients l = record {
  count : length l.cores.items ≡ l.client;
  after : (c : ℕ) (d : Core) → c < length l.cores.items → IsAfter c l.script [] (slice_index_or l.cores.items c d);
  fresh : All (λ core. core.step ≡ 0) l.cores.items;
}
