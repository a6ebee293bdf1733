use Rattle.node_laws.proofs.Imports.{demux, dvr, demux_keeps, dvr_keeps}
use Rattle.node_laws.proofs.Pending.{names_a_byte}
use Rattle.node_laws.proofs.an_overflow_names_a_byte.Goals as goal

pub returns-clause-demux_nodes : goal.returns-clause-demux_nodes
returns-clause-demux_nodes c = names_a_byte demux demux_keeps

pub returns-clause-dvr_node : goal.returns-clause-dvr_node
returns-clause-dvr_node c = names_a_byte dvr dvr_keeps
