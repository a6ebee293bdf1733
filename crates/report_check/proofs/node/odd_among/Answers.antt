use Rattle.report_check.proofs.Imports.{length, map, told_entry, ToldNode, told_node, IsSoundNode}
use Rattle.report_check.proofs.Lists.{at_front, at_behind, at_both, at_none}
use Rattle.report_check.proofs.node.odd_among.Goals as goal

pub returns-in-Some : goal.returns-in-Some
returns-in-Some c all =
    let P : ToldNode → Type 0 = IsSoundNode c.args.clients c.args.packets (map (λ ps. length ps) (map (λ p. p.items) c.args.played.now)) (map told_entry c.args.others.now) in
    c.in-Some.ensures (at_front told_node P c.nodes.rest.now c.node-item.result _ c.in-len1-up.len_at_least c.node-item.is (c.nodes.invariant.on all))

pub nodes-preserved : goal.nodes-preserved
nodes-preserved c =
    let P : ToldNode → Type 0 = IsSoundNode c.args.clients c.args.packets (map (λ ps. length ps) (map (λ p. p.items) c.args.played.now)) (map told_entry c.args.others.now) in
    record {
      on = λ all. at_behind told_node P c.nodes.rest.now c.node-item.result _ c.in-len1-up.len_at_least c.node-item.is (c.nodes.invariant.on all);
      back = λ later. c.nodes.invariant.back (at_both told_node P c.nodes.rest.now c.node-item.result _ c.in-len1-up.len_at_least c.node-item.is c.in_default-odd_on.ensures later);
    }

pub returns : goal.returns
returns c =
    let P : ToldNode → Type 0 = IsSoundNode c.args.clients c.args.packets (map (λ ps. length ps) (map (λ p. p.items) c.args.played.now)) (map told_entry c.args.others.now) in
    c.nodes.invariant.back (at_none told_node P c.nodes.rest.now c.in_default.len_below)
