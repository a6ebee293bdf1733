use Rattle.serial_core.proofs.Imports.{◌≡◌, sym, subst, invocation_of, response_of, May, demux_rules, dvr_rules, Rules, dvr, rules_at}
use Rattle.serial_core.proofs.node.AnyCore.apply.Goals as goal

pub returns-in-Demux-clause-stands : goal.returns-in-Demux-clause-stands
returns-in-Demux-clause-stands g c number h at =
    let s = rw c.in-Demux.is at at in
    let k = c.apply.ensures.stands h s.1 in
    (subst (λ (rules : Rules). May rules h c.args.who (invocation_of c.args.call) (response_of c.apply.result.reply)) (sym (demux_rules number s.0)) k.0, (s.0, k.1))

pub returns-in-Dvr-clause-stands : goal.returns-in-Dvr-clause-stands
returns-in-Dvr-clause-stands g c number h at =
    let s = rw c.in-Dvr.is at at in
    let k = c.apply-in-Dvr.ensures.stands h s.1 in
    let rules : rules_at number ≡ dvr = subst (λ n. rules_at n ≡ dvr) (sym s.0) dvr_rules in
    (subst (λ (rules : Rules). May rules h c.args.who (invocation_of c.args.call) (response_of c.apply-in-Dvr.result.reply)) (sym rules) k.0, (s.0, k.1))
