use Rattle.feed_pull.proofs.Imports.{arith, ◌≡◌, ◌≤◌, ◌+◌, ◌-◌, drop, refl, drop-take, drop-drop, length-take}
use Rattle.feed_pull.proofs.piece.Piece.pass.Goals as goal

pub returns : goal.returns
returns c =
    let i = c.self.inside in
    let n = c.args.count in
    let items = i.bytes.items in
    let h = rw (← c.self.view_is) at c.requires in
    let fits : n ≤ i.end - i.at = omega (arith, h, length-take (i.end - i.at) (drop i.at items)) in
    let e : i.end - i.at ≡ n + (i.end - (i.at + n)) = omega arith in
    rw (← c.self.view_is, e, drop-take n (i.end - (i.at + n)) (drop i.at items), drop-drop n i.at items) refl
