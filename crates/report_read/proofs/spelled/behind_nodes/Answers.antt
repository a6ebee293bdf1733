use Rattle.report_read.proofs.Imports.{◌∙◌, codes, map, flat_map, told_entry, entry_text, told_node_text, node_text}
use Rattle.report_read.proofs.Compared.{gone_more, gone_node}
use Rattle.report_read.proofs.spelled.behind_nodes.Goals as goal

pub nodes-preserved : goal.nodes-preserved
nodes-preserved c =
    let node = gone_node (codes "node ") (node_text c.nodes-item.result.0) (codes "\n") (flat_map entry_text (map told_entry c.nodes-item.result.1.items)) c.nodes.left in
    let more = gone_more told_node_text (λ n. record { node = n.0; entries = map told_entry n.1.items }) c.args.nodes.now c.nodes.number-index c.nodes-item.result c.args.first c.nodes-test.true c.nodes-item.is c.nodes.invariant in
    rw (c.in_ok-left.ensures, c.deref.ensures.value, c.behind_text.ensures, c.deref-in-nodes.ensures.value, c.in_ok-add_node_line.ensures.items, c.clear.ensures.items) (node ∙ more)
