use Rattle.std.proofs.Common.{refl, arith}
use Rattle.dvr_core.proofs.Places.{changed_past, changed_in}
use Rattle.dvr_core.proofs.taps.Taps.attach.Goals as goal

pub returns-then-node-lt-DEMUX_NODES : goal.returns-then-node-lt-DEMUX_NODES
returns-then-node-lt-DEMUX_NODES c =
    rw (← c.self.view_is) (changed_in _ c.self.inside.taps c.args.node c.index-self-node.result _ (omega (arith, c.self.invariant, c.if-node-lt-DEMUX_NODES.true)) refl)

pub returns-else-node-lt-DEMUX_NODES : goal.returns-else-node-lt-DEMUX_NODES
returns-else-node-lt-DEMUX_NODES c =
    rw (← c.self.view_is) (changed_past _ c.self.inside.taps c.args.node (omega (arith, c.self.invariant, c.if-node-lt-DEMUX_NODES.false)))
