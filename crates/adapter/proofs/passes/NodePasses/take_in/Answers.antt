use Rattle.std.proofs.Common.{◌∙◌, sym}
use Rattle.adapter.proofs.RowJoins.{join_both}
use Rattle.adapter.proofs.passes.NodePasses.take_in.Goals as goal

pub returns : goal.returns
returns c = let j = c.join.ensures in
    rw (← c.self.view_is, ← c.other.view_is) (join_both c.self.inside.demux.items c.other.inside.demux.items c.join_row.new.into.items c.self.inside.dvr c.other.inside.dvr c.join.new.into (c.other.invariant ∙ sym c.self.invariant) c.join_row.ensures
    (record { own = j.same.0; callers = j.same.2; numbers = j.numbers; calls = j.calls.0; mine = j.seen.0; theirs = j.seen.1 }))
