use Rattle.emu_top.proofs.Imports.{◌≡◌, ◌<◌, ◌^◌, length, map, rules, subst, All, told_entry, feeder_acts, woven, IsEntryInRange}
use Rattle.emu_top.proofs.Ranged.{node_in}
use Rattle.emu_top.proofs.fitting.look_at_node.Goals as goal

pub returns-clause-entries : goal.returns-clause-entries
returns-clause-entries c h at =
    let short : length c.node.result.0.now < 2 ^ 63 = search rules in
    let few : length c.node.result.1.now < 2 ^ 63 = search rules in
    let same : woven c.args.node (feeder_acts c.node.result.0.now) (map told_entry c.node.result.1.now) ≡ h = let is = c.node.ensures.history in cc in
    subst (All IsEntryInRange) same (node_in c.args.node c.node.result.0.now c.node.result.1.now short few c.look_at_feeding.ensures c.look_at_calls.ensures)
