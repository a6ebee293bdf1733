use Rattle.report_read.proofs.Imports.{Some, codes, flat_map, told_node_text, told_of, row_text, tally_text, clients_text, end_text}
use Rattle.report_read.proofs.Compared.{gone_all}
use Rattle.report_read.proofs.spelled.behind_report.Goals as goal

pub returns : goal.returns
returns c =
    let t = told_of c.args.told.now in
    let all = gone_all (codes "dvbemu 1\n") (tally_text t.head.tally) (flat_map row_text t.head.rows) (clients_text 0 t.outcomes) (flat_map told_node_text t.nodes) (end_text t.head.read_fault) (Some c.args.bytes.now) in
    rw (c.behind_text.ensures, c.deref-4.ensures.value, c.in_ok-add_end.ensures.items, c.clear.ensures.items, c.in_ok-nodes.ensures, c.deref-3.ensures.value, c.behind_text-front.ensures)
    (rw (c.of.ensures, c.deref-2.ensures.value, c.in_ok-add_clients.ensures, c.deref.ensures.value, c.in_ok-add_head.ensures, c.new-line.ensures.items) all)
