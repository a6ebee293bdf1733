use Rattle.emu_top.proofs.Imports.{◌≡◌, ◌+◌, ◌-◌, ◌^◌, length, Draws}
use Rattle.emu_top.proofs.stream.pull_all.Given as goal

abbrev pub invariant-batches : goal.invariant-batches
invariant-batches g l = record {
  draws : Draws (g.S.Source.end l.initial.source) (g.S.Source.end l.source) l.initial.puller l.puller l.packets.items;
  given : l.puller.given ≡ l.initial.puller.given + length l.packets.items;
}

abbrev pub decreases-batches : goal.decreases-batches
decreases-batches g l = 2 ^ 41 - l.puller.given
