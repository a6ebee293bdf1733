use Rattle.report_check.proofs.Imports.{◌∙◌, List, length, map, sym, subst, false≢true, All, ToldNode, told_node, told_nodes, IsSoundNode, AreSoundNodes}
use Rattle.report_check.proofs.Lists.{behind, parted, none_left}
use Rattle.report_check.proofs.Ways.{by_other}
use Rattle.report_check.proofs.node.odd_node.Goals as goal

pub returns-in_default : goal.returns-in_default
returns-in_default c =
    let none = none_left c.args.nodes.now c.in_default.len_below in
    subst (λ ns. AreSoundNodes c.args.clients c.args.packets (map (λ ps. length ps) (map (λ p. p.items) c.args.played.now)) (told_nodes ns)) (sym none) tt

pub returns-in-Some : goal.returns-in-Some
returns-in-Some c sound =
    let front = parted c.args.nodes.now c.first-item.result _ c.in-len1-up.len_at_least c.first-item.is in
    let there = subst (λ ns. AreSoundNodes c.args.clients c.args.packets (map (λ ps. length ps) (map (λ p. p.items) c.args.played.now)) (told_nodes ns)) front sound in
    false≢true (sym (rw c.deref.ensures.value at c.in-Some.ensures) ∙ there.0)

pub returns : goal.returns
returns c =
    let n : ToldNode = told_node c.first-item.result in
    let ns : List ToldNode = told_nodes (behind c.args.nodes.now) in
    let front = parted c.args.nodes.now c.first-item.result _ c.in-len1-up.len_at_least c.first-item.is in
    by_other c.odd_among.result (All (IsSoundNode c.args.clients c.args.packets (map (λ ps. length ps) (map (λ p. p.items) c.args.played.now)) n.entries) (told_nodes c.args.nodes.now)) (AreSoundNodes c.args.clients c.args.packets (map (λ ps. length ps) (map (λ p. p.items) c.args.played.now)) (told_nodes c.args.nodes.now))
    (λ all. subst (λ xs. AreSoundNodes c.args.clients c.args.packets (map (λ ps. length ps) (map (λ p. p.items) c.args.played.now)) (told_nodes xs)) (sym front) (rw c.deref.ensures.value at c.in_default-unfed.ensures, subst (λ xs. All (IsSoundNode c.args.clients c.args.packets (map (λ ps. length ps) (map (λ p. p.items) c.args.played.now)) n.entries) (told_nodes xs)) front all))
    (λ sound. subst (λ xs. All (IsSoundNode c.args.clients c.args.packets (map (λ ps. length ps) (map (λ p. p.items) c.args.played.now)) n.entries) (told_nodes xs)) (sym front) (subst (λ xs. AreSoundNodes c.args.clients c.args.packets (map (λ ps. length ps) (map (λ p. p.items) c.args.played.now)) (told_nodes xs)) front sound).1)
    (rw c.deref-2.ensures.value at c.odd_among.ensures)
