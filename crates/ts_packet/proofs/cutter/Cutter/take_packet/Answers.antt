use Rattle.ts_packet.proofs.Imports.{arith, ◌≡◌, [], take, ap, ◌∙◌, Cutting}
use Rattle.ts_packet.proofs.CutLemmas.{at_least, Cuts-packet}
use Rattle.ts_packet.proofs.cutter.Cutter.take_packet.Goals as goal

pub returns-clause-cuts : goal.returns-clause-cuts
returns-clause-cuts g c =
    let i = c.self.inside in
    let empty : take i.len i.held ≡ [] = ap (λ (z : Cutting). z.rest) c.self.view_is ∙ c.requires.empty in
    rw (← c.self.view_is)
    (Cuts-packet (record { size = i.size; packets = i.packets; skipped = i.skipped; rest = take i.len i.held }) c.args.bytes.now empty
    (record { whole = rw (← c.self.view_is) at c.requires.whole; sync = c.requires.sync }))

pub packet_in_front-requires-clause-whole : goal.packet_in_front-requires-clause-whole
packet_in_front-requires-clause-whole g c = omega (arith, c.requires.whole, at_least c.args.self.now.size)
