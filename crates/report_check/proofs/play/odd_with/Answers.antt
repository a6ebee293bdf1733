use Rattle.report_check.proofs.Imports.{◌≡◌, ℕ, map, sym, subst, arith, DEMUX_NODES, told_entry, brought_from, IsPlayed}
use Rattle.report_check.proofs.Ways.{ok_by_other}
use Rattle.report_check.proofs.play.odd_with.Goals as goal

pub returns : goal.returns
returns g c =
    let last : c.args.node ≡ DEMUX_NODES = omega arith in
    ok_by_other c.odd_of_dvr.result (IsPlayed (brought_from c.args.packets.now (map (λ p. p.items) c.args.played.now)) (record { node = DEMUX_NODES; entries = map told_entry c.args.entries.now }))
    (IsPlayed (brought_from c.args.packets.now (map (λ p. p.items) c.args.played.now)) (record { node = c.args.node; entries = map told_entry c.args.entries.now }))
    (λ played. subst (λ (k : ℕ). IsPlayed (brought_from c.args.packets.now (map (λ p. p.items) c.args.played.now)) (record { node = k; entries = map told_entry c.args.entries.now })) (sym last) played)
    (λ played. subst (λ (k : ℕ). IsPlayed (brought_from c.args.packets.now (map (λ p. p.items) c.args.played.now)) (record { node = k; entries = map told_entry c.args.entries.now })) last played)
    c.odd_of_dvr.ensures
