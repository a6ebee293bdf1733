use Rattle.adapter.proofs.Imports.{rules, ◌≡◌, ℕ, ◌+◌, ◌≤◌, ◌^◌, ◌∙◌, ◌++◌, ◌∷◌, [], List, length, vec_len, ap, subst, sym, refl, arith, option_to_list, TableId, Caller, AreMine}
use Rattle.adapter.proofs.Pairs.{Made, next_row_of, next_made, fresh_mine}
use Rattle.adapter.proofs.making.make_clients.Goals as goal

pub invariant_of-push : goal.invariant_of-push
invariant_of-push c =
    let n : ℕ = vec_len c.args.rest + 1 in let locks : List TableId = c.args.demux.now.items ++ c.args.dvr.now ∷ [] in
    let ys = c.pop.new.self.items in let row = c.in-Some.passes in
    let e : c.loop-passes.rest.items ≡ ys ++ row ∷ [] = c.pop.ensures.items ∙ ap (λ o. ys ++ option_to_list o) c.in-Some.is in
    let at : length c.loop-passes.clients.items ≡ c.len-in-Some.result = search rules in
    let few : 2 ^ 40 ≤ 2 ^ 44 = omega arith in
    subst (λ (k : ℕ). AreMine (k + 1) (2 ^ 40) row) at (fresh_mine n locks (length c.loop-passes.clients.items + 1) (2 ^ 40) row few (next_row_of n locks c.loop-passes.rest.items ys c.loop-passes.clients.items row c.loop-passes.invariant e))

pub loop-passes-preserved : goal.loop-passes-preserved
loop-passes-preserved c =
    let n : ℕ = vec_len c.args.rest + 1 in let locks : List TableId = c.args.demux.now.items ++ c.args.dvr.now ∷ [] in
    let ys = c.pop.new.self.items in let row = c.in-Some.passes in
    let e : c.loop-passes.rest.items ≡ ys ++ row ∷ [] = c.pop.ensures.items ∙ ap (λ o. ys ++ option_to_list o) c.in-Some.is in
    let at : c.len-in-Some.result + 1 ≡ length c.loop-passes.clients.items + 1 = search rules in
    let client : Caller = record { who = c.len-in-Some.result + 1; left = 2 ^ 40; passes = row } in
    let more : c.push.new.self.items ≡ c.loop-passes.clients.items ++ client ∷ [] = search rules in
    subst (λ (cs : List Caller). Made n locks ys cs) (sym more) (next_made n locks c.loop-passes.rest.items ys c.loop-passes.clients.items row client c.loop-passes.invariant e at refl refl)
