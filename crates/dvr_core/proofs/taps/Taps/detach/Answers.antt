use Rattle.std.proofs.Common.{arith}
use Rattle.dvr_core.proofs.Places.{changed_past, changed_in, changed_not}
use Rattle.dvr_core.proofs.taps.Taps.detach.Goals as goal
use Rattle.dvr_core.proofs.taps.Taps.detach.Goals.{else-node-lt-DEMUX_NODES-via-then-node-lt-DEMUX_NODES+else-is_of, else-node-lt-DEMUX_NODES-via-else-node-lt-DEMUX_NODES}

pub returns-then-is_of : goal.returns-then-is_of
returns-then-is_of c =
    rw (← c.self.view_is) (changed_in _ c.self.inside.taps c.args.node c.index-self-node.result _ (omega (arith, c.self.invariant, c.if-node-lt-DEMUX_NODES.true)) (c.is_of.ensures.own c.if-is_of.true))

pub returns-else-node-lt-DEMUX_NODES : goal.returns-else-node-lt-DEMUX_NODES
returns-else-node-lt-DEMUX_NODES c = elim c.else-node-lt-DEMUX_NODES.branch [
  | else-node-lt-DEMUX_NODES-via-then-node-lt-DEMUX_NODES+else-is_of w ↦
      rw (← c.self.view_is) (changed_not _ c.self.inside.taps c.args.node w.index-self-node.result (omega (arith, c.self.invariant, w.if-node-lt-DEMUX_NODES.true)) (w.is_of.ensures.other w.if-is_of.false))
  | else-node-lt-DEMUX_NODES-via-else-node-lt-DEMUX_NODES w ↦
      rw (← c.self.view_is) (changed_past _ c.self.inside.taps c.args.node (omega (arith, c.self.invariant, w.if-node-lt-DEMUX_NODES.false)))
]
