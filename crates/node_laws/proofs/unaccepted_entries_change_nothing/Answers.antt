use Rattle.dmx_calls.proofs.Unaccepted.{demux_same, dvr_same}
use Rattle.node_laws.proofs.unaccepted_entries_change_nothing.Goals as goal

pub returns-clause-demux_nodes : goal.returns-clause-demux_nodes
returns-clause-demux_nodes c = demux_same

pub returns-clause-dvr_node : goal.returns-clause-dvr_node
returns-clause-dvr_node c = dvr_same
