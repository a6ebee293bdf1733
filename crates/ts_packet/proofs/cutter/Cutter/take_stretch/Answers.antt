use Rattle.ts_packet.proofs.Imports.{arith, ◌≡◌, ◌<◌, ◌≤◌, [], length, take, get_or, refl, sym, ap, ◌∙◌, length-take-le, get_or-take, in_bytes, Cutting, IsRest}
use Rattle.ts_packet.proofs.CutLemmas.{none-in-rest, none-in-skipped}
use Rattle.ts_packet.proofs.cutter.Cutter.take_stretch.Goals as goal
use Rattle.ts_packet.proofs.cutter.Cutter.take_stretch.Goals.{then-self-eq0+else-piece-ne-SYNC_BYTE+in_default, else-self-eq0}

pub returns-then-piece-ne-SYNC_BYTE-clause-soon : goal.returns-then-piece-ne-SYNC_BYTE-clause-soon
returns-then-piece-ne-SYNC_BYTE-clause-soon g c = λ k lt.
    let piece = c.args.piece.now in
    let n : length (take k piece) ≡ k = length-take-le k piece (omega (arith, c.skip.ensures.within)) in
    none-in-skipped c.args.self.now.size c.args.self.now.rest (take k piece) (rw (← c.self.view_is, c.if-self-eq0.true) refl)
    (λ j below. rw (get_or-take k piece j 0 (omega arith)) (c.skip.ensures.before j (omega arith)))

pub returns-in-Some-clause-soon : goal.returns-in-Some-clause-soon
returns-in-Some-clause-soon g c = λ k lt.
    let piece = c.args.piece.now in
    let is_rest : IsRest c.args.self.now.size c.args.self.now.rest = rw (← c.self.view_is) c.self.invariant.2 in
    let empty : c.args.self.now.rest ≡ [] = rw (← c.self.view_is, c.if-self-eq0.true) refl in
    let there = c.in-Some.ensures.lookup.0 in
    let long : c.bytes.result ≤ length piece = there.1 in
    let below : k < c.bytes.result = omega (arith, lt, there.3) in
    let whole : c.bytes.result ≡ in_bytes c.args.self.now.size = c.bytes.ensures.value ∙ ap (λ (z : Cutting). in_bytes z.size) c.self.view_is in
    let n : length (take k piece) ≡ k = length-take-le k piece (omega arith) in
    none-in-rest c.args.self.now.size c.args.self.now.rest (take k piece) is_rest (rw empty (omega arith)) (λ z some. rw (get_or-take k piece 0 0 (omega arith)) (omega arith))

pub returns-clause-soon : goal.returns-clause-soon
returns-clause-soon g c = λ k lt.
    let piece = c.args.piece.now in
    let is_rest : IsRest c.args.self.now.size c.args.self.now.rest = rw (← c.self.view_is) c.self.invariant.2 in
    let n : length (take k piece) ≡ k = length-take-le k piece (omega (arith, c.fill.ensures.within)) in
    let held : length (take c.self.inside.len c.self.inside.held) ≡ c.self.inside.len = length-take-le c.self.inside.len c.self.inside.held (omega arith) in
    let same : length c.args.self.now.rest ≡ c.self.inside.len = ap (λ (z : Cutting). length z.rest) (sym c.self.view_is) ∙ held in
    let first : length c.args.self.now.rest ≡ 0 → get_or piece 0 0 ≡ 71 = λ z. elim c.if-self-eq0.branch [
      | then-self-eq0+else-piece-ne-SYNC_BYTE+in_default w ↦ omega arith
      | else-self-eq0 w ↦ absurd (omega arith)
    ] in
    none-in-rest c.args.self.now.size c.args.self.now.rest (take k piece) is_rest (omega (arith, c.fill.ensures.most)) (λ z some. rw (get_or-take k piece 0 0 (omega arith)) (first z))
