use Rattle.ts_packet.proofs.Imports.{◌≡◌, [], take, ap, ◌∙◌, length-take-le, get_or-take, Cutting}
use Rattle.ts_packet.proofs.CutLemmas.{Cuts-skips}
use Rattle.ts_packet.proofs.cutter.Cutter.skip.Goals as goal

pub returns-clause-cuts : goal.returns-clause-cuts
returns-clause-cuts c =
    let i = c.self.inside in
    let piece = c.args.piece.now in
    let n = c.bytes_before_sync-count.result in
    let empty : take i.len i.held ≡ [] = ap (λ (z : Cutting). z.rest) c.self.view_is ∙ c.requires.empty in
    rw (← c.self.view_is)
    (Cuts-skips (record { size = i.size; packets = i.packets; skipped = i.skipped; rest = take i.len i.held }) (take n piece) n empty
    (length-take-le n piece c.bytes_before_sync-count.ensures.within)
    (λ k lt. rw (get_or-take n piece k 0 lt) (c.bytes_before_sync-count.ensures.before k lt)))
