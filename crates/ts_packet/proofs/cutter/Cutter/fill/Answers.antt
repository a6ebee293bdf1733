use Rattle.ts_packet.proofs.Imports.{arith, ◌≡◌, ℕ, ◌+◌, List, [], ◌∷◌, ◌++◌, length, take, get_or, refl, sym, ap, ◌∙◌, drop_all, drop_at, take-take, length-take-le, get_or-take, Cutting, IsRest}
use Rattle.ts_packet.proofs.CutLemmas.{Cuts-hold, Cuts-whole, IsRest-behind, IsStretch, IsStretch-behind}
use Rattle.ts_packet.proofs.cutter.Cutter.fill.Goals as goal

pub returns-then-self-size-clause-cuts : goal.returns-then-self-size-clause-cuts
returns-then-self-size-clause-cuts g c =
    let i = c.self.inside in
    let piece = c.args.piece.now in
    let n = c.min-count.result in
    let held = c.put_behind.new.held in
    let rest : List ℕ = take i.len i.held in
    let size : length (take n piece) ≡ n = length-take-le n piece (omega arith) in
    let len : length rest ≡ i.len = length-take-le i.len i.held (omega arith) in
    let same : rest ≡ c.args.self.now.rest = ap (λ (z : Cutting). z.rest) c.self.view_is in
    let all : take (i.len + n) held ≡ rest ++ take n piece = ap (λ (k : ℕ). take (i.len + k) held) (sym size) ∙ c.put_behind.ensures in
    let front : take 188 held ≡ take 188 (rest ++ take n piece) = sym (take-take 188 (i.len + n) held (omega arith)) ∙ ap (take 188) all in
    let first : length rest ≡ 0 → get_or (take n piece) 0 0 ≡ 71 = λ z. rw (get_or-take n piece 0 0 (omega arith)) (c.requires.begun (ap length (sym same) ∙ z)) in
    let whole : IsStretch i.size (rest ++ take n piece) = IsStretch-behind i.size rest (take n piece) c.self.invariant.2 (omega arith) first in
    rw (c.push.ensures.appended, drop_at (g.R.PacketRoom.packets c.args.out.now) (c.packet_in_front.result ∷ []) (length (g.R.PacketRoom.packets c.args.out.now)) refl, c.packet_in_front.ensures, front, ← c.self.view_is)
    (Cuts-whole (record { size = i.size; packets = i.packets; skipped = i.skipped; rest = rest }) (take n piece) whole)

pub returns-else-self-size-clause-cuts : goal.returns-else-self-size-clause-cuts
returns-else-self-size-clause-cuts g c =
    let i = c.self.inside in
    let piece = c.args.piece.now in
    let n = c.min-count.result in
    let rest : List ℕ = take i.len i.held in
    let size : length (take n piece) ≡ n = length-take-le n piece (omega arith) in
    let held : length rest ≡ i.len = length-take-le i.len i.held (omega arith) in
    let same : rest ≡ c.args.self.now.rest = ap (λ (z : Cutting). z.rest) c.self.view_is in
    let all : take (i.len + n) c.put_behind.new.held ≡ rest ++ take n piece = ap (λ (k : ℕ). take (i.len + k) c.put_behind.new.held) (sym size) ∙ c.put_behind.ensures in
    let begun : IsRest i.size (rest ++ take n piece) =
    IsRest-behind i.size rest (take n piece) c.self.invariant.2 (omega arith) (λ z some. rw (get_or-take n piece 0 0 (omega arith)) (c.requires.begun (ap length (sym same) ∙ z))) in
    rw (drop_all (length (g.R.PacketRoom.packets c.args.out.now)) (g.R.PacketRoom.packets c.args.out.now) (omega arith), ← c.self.view_is, all)
    (Cuts-hold (record { size = i.size; packets = i.packets; skipped = i.skipped; rest = rest }) (take n piece) begun)
