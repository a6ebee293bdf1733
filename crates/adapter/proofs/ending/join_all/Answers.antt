use Rattle.adapter.proofs.Imports.{rules, ◌≡◌, ap, ◌∙◌, ◌∷◌, [], ◌++◌, option_to_list, rows_of}
use Rattle.adapter.proofs.Gathers.{first_gathering, next_gathering, next_fits, all_gathered, rows_more}
use Rattle.adapter.proofs.ending.join_all.Goals as goal

pub loop-client-init : goal.loop-client-init
loop-client-init c = first_gathering c.args.adapter.now (rows_of c.args.others.items) c.args.into c.requires.all

pub take_in-requires-clause-own : goal.take_in-requires-clause-own
take_in-requires-clause-own c = c.loop-client.invariant.own

pub take_in-requires-clause-theirs : goal.take_in-requires-clause-theirs
take_in-requires-clause-theirs c = let ys = c.pop.new.self.items in
    next_fits c.args.adapter.now (rows_of c.args.others.items ++ c.args.into ∷ []) (rows_of c.loop-client.others.items) (rows_of ys) c.loop-client.into c.into_passes.result c.loop-client.invariant
    (rows_more c.loop-client.others.items ys c.in-Some.client c.into_passes.result (c.pop.ensures.items ∙ ap (λ o. ys ++ option_to_list o) c.in-Some.is) c.into_passes.ensures)

pub loop-client-preserved : goal.loop-client-preserved
loop-client-preserved c = let ys = c.pop.new.self.items in
    next_gathering c.args.adapter.now (rows_of c.args.others.items ++ c.args.into ∷ []) (rows_of c.loop-client.others.items) (rows_of ys) c.loop-client.into c.into_passes.result c.take_in.new.self c.loop-client.invariant
    (rows_more c.loop-client.others.items ys c.in-Some.client c.into_passes.result (c.pop.ensures.items ∙ ap (λ o. ys ++ option_to_list o) c.in-Some.is) c.into_passes.ensures) c.take_in.ensures

pub returns : goal.returns
returns c = all_gathered c.args.adapter.now (rows_of c.args.others.items ++ c.args.into ∷ []) (rows_of c.loop-client.others.items) c.loop-client.into c.loop-client.invariant (let none : c.loop-client.others.items ≡ [] = search rules in ap rows_of none)
