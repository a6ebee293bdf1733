use Rattle.adapter.proofs.Imports.{rules, ◌≡◌, ◌+◌, ℕ, length, slice_get, slice_index_or, Some, ap, ◌∙◌, ◌∷◌, [], ◌++◌, sym, subst, set, arith, length-append, option_to_list, slice_get-get_or}
use Rattle.adapter.proofs.Deals.{Dealing, next_deal}
use Rattle.adapter.proofs.making.deal.Goals as goal

pub loop-pass-preserved : goal.loop-pass-preserved
loop-pass-preserved g c =
    let ys = c.pop.new.self.items in let j = c.loop-pass.invariant in let rest = c.loop-pass.passes.items in
    let e : rest ≡ ys ++ c.in-Some.pass ∷ [] = c.pop.ensures.items ∙ ap (λ o. ys ++ option_to_list o) c.in-Some.is in
    let n : ℕ = length ys in let at : c.len-who.result ≡ n = search rules in
    let long : length rest ≡ n + 1 = ap length e ∙ length-append ys (c.in-Some.pass ∷ []) in
    let l = j.long in let a = j.all in let few = j.few in
    let row = slice_index_or c.loop-pass.rows n c.index-rows-who.result in
    let r : slice_get c.loop-pass.rows n ≡ Some row = slice_get-get_or c.loop-pass.rows n c.index-rows-who.result (omega arith) in
    let is : c.push.new.self.items ≡ row.items ++ c.in-Some.pass ∷ [] = search rules in
    subst (λ (k : ℕ). Dealing (λ x. x.items) c.args.rows.now c.args.passes.items ys (set c.loop-pass.rows k c.push.new.self)) (sym at)
    (next_deal (λ x. x.items) c.args.rows.now c.args.passes.items rest ys c.loop-pass.rows c.in-Some.pass row c.push.new.self j e r is)
