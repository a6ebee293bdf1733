use Rattle.adapter.proofs.Imports.{rules, ◌≡◌, ◌∙◌, ◌++◌, ◌∷◌, [], List, vec_len, ap, subst, sym, refl, option_to_list, TableId, View, Entry}
use Rattle.adapter.proofs.Pairs.{Paired, next_pair}
use Rattle.adapter.proofs.making.with_dvr.Goals as goal

pub loop-row-preserved : goal.loop-row-preserved
loop-row-preserved c =
    let ys = c.pop.new.self.items in let r = c.in-Some.row in let zs = c.pop-in-Some.new.self.items in let p = c.unwrap-pass.result in
    let e : c.loop-row.rows.items ≡ ys ++ r ∷ [] = c.pop.ensures.items ∙ ap (λ o. ys ++ option_to_list o) c.in-Some.is in
    let d : c.loop-row.passes.items ≡ zs ++ p ∷ [] = c.pop-in-Some.ensures.items ∙ ap (λ o. zs ++ option_to_list o) c.unwrap-pass.ensures in
    let row : List (TableId × View Entry) = r.items ++ p ∷ [] in
    let more : c.push.new.self.items ≡ c.loop-row.all.items ++ row ∷ [] = search rules in
    subst (λ (rows : List (List (TableId × View Entry))). Paired (λ x. x.items) (vec_len c.args.passes) c.args.demux.now.items c.args.dvr.now ys zs rows) (sym more)
    (next_pair (λ x. x.items) (vec_len c.args.passes) c.args.demux.now.items c.args.dvr.now c.loop-row.rows.items ys r c.loop-row.passes.items zs p c.loop-row.all.items row c.loop-row.invariant e d refl)
