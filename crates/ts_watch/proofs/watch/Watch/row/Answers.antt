use Rattle.ts_watch.proofs.Imports.{◌≡◌, ◌∙◌, sym, Some, None, get_or, arith, get_or_default}
use Rattle.ts_watch.proofs.watch.Watch.row.Goals as goal

pub index-requires-in-Some : goal.index-requires-in-Some
index-requires-in-Some c =
    let i = c.self.invariant.0 in
    let at : get_or c.self.inside.places.items c.args.pid None ≡ Some c.in-Some.place = get_or_default c.self.inside.places.items c.args.pid None c.index.result.now (omega (arith, c.requires, i.size)) ∙ sym c.index.ensures ∙ c.in-Some.is in
    omega (arith, (i.own c.args.pid c.in-Some.place at).0)
