use Rattle.emu_top.proofs.Imports.{◌≡◌, length, arith, All, IsEntryInRange}
use Rattle.emu_top.proofs.Ranged.{one_more, all_nodes}
use Rattle.emu_top.proofs.fitting.look_at_histories.Goals as goal

pub nodes-init : goal.nodes-init
nodes-init c = record { many = λ some. absurd (omega (arith, some)); entries = λ k h lt at. absurd (omega (arith, lt)) }

pub nodes-preserved : goal.nodes-preserved
nodes-preserved c = record {
  many = λ _. c.look_at_node.ensures.nodes;
  entries = one_more (All IsEntryInRange) c.args.histories.now c.nodes.node c.nodes.invariant.entries c.look_at_node.ensures.entries;
}

pub returns : goal.returns
returns c =
    let many : length c.args.histories.now ≡ 33 = c.nodes.invariant.many (omega (arith, c.nodes-test.false)) in
    all_nodes (All IsEntryInRange) c.args.histories.now c.nodes.node (omega (arith, many, c.nodes-test.false)) c.nodes.invariant.entries
