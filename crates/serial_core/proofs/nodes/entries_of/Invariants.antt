use Rattle.std.proofs.Common.{◌≡◌, map}
use Rattle.serial_core.proofs.nodes.entries_of.Given as goal

abbrev pub invariant-seats : goal.invariant-seats
invariant-seats l = map (λ calls. calls.items) l.nodes.items ≡ map (λ seat. seat.entries.items) l.yielded
