use Rattle.report_read.proofs.Imports.{◌≡◌, ◌∙◌, List, ◌∷◌, [], rules, arith, map, true, Some, codes, map-append, All-push, told_entry, ToldNode, begins_with, node_in, IsNodeInRange}
use Rattle.report_read.proofs.Many.{many_on}
use Rattle.report_read.proofs.nodes.read_nodes.Goals as goal

pub nodes-preserved : goal.nodes-preserved
nodes-preserved c =
    let one : ToldNode = record { node = c.in-Some.node.0; entries = map told_entry c.in-Some.node.1.items } in
    let read : node_in c.nodes.bytes ≡ Some (record { node = c.in-Some.node.0; entries = map told_entry c.in-Some.node.1.items }, c.read_node.new.bytes) = rw c.in-Some.is at c.in_ok-node.ensures.value in
    let fits : IsNodeInRange (record { node = c.in-Some.node.0; entries = map told_entry c.in-Some.node.1.items }) = rw c.in-Some.is at c.in_ok-node.ensures.range in
    let begun : begins_with (codes "node ") c.nodes.bytes ≡ true = search rules in
    let front : List ToldNode = map (λ n. record { node = n.0; entries = map told_entry n.1.items }) c.nodes.nodes.items in
    let on = many_on (begins_with (codes "node ")) node_in c.nodes.left c.nodes.bytes c.read_node.new.bytes front one (omega arith) begun read in
    record {
      so_far = rw (c.in_ok-push.ensures.items, map-append {B = ToldNode} (λ n. record { node = n.0; entries = map told_entry n.1.items }) c.nodes.nodes.items (c.in-Some.node ∷ [])) (c.nodes.invariant.so_far ∙ on);
      range = rw (c.in_ok-push.ensures.items, map-append {B = ToldNode} (λ n. record { node = n.0; entries = map told_entry n.1.items }) c.nodes.nodes.items (c.in-Some.node ∷ [])) (All-push IsNodeInRange front one c.nodes.invariant.range fits);
    }
