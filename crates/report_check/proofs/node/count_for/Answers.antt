use Rattle.report_check.proofs.Imports.{◌≡◌, ◌∙◌, sym, subst, length, map, arith, Input, count_for}
use Rattle.report_check.proofs.Players.{count_at}
use Rattle.report_check.proofs.node.count_for.Goals as goal

pub returns-in-Some : goal.returns-in-Some
returns-in-Some c =
    let here = count_at c.args.played.now c.args.who c.in-Some.packets.now c.in-Some.ensures.lookup.3.0 c.in-Some.ensures.lookup.1 in
    let many : c.len.result ≡ length c.in-Some.packets.now.items = omega (arith, c.len.ensures, c.in-Some.packets.now.ok.0) in
    subst (λ (i : Input). c.len.result ≡ count_for c.args.packets (map (λ ps. length ps) (map (λ p. p.items) c.args.played.now)) c.args.who i) (sym c.in-Dvr.is) (many ∙ sym here)
