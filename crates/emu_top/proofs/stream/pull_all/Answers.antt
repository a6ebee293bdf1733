use Rattle.emu_top.proofs.Imports.{◌≡◌, subst, ◌++◌, [], append-nil, length-append, rules, arith, given_by, Draws, draws_none, draws_then}
use Rattle.emu_top.proofs.stream.pull_all.Goals as goal

pub batches-init : goal.batches-init
batches-init g c = rw c.new-packets.ensures.items record { draws = draws_none _ c.args.puller.now; given = omega arith }

pub batches-preserved : goal.batches-preserved
batches-preserved g c =
    let e = c.pull.ensures in
    let batch = c.in-Some.batch.value in
    let qs = given_by c.pull.result (λ batch. batch.value.packets) in
    let is : qs ≡ batch.packets = search rules in
    let items : c.add_to.new.packets.items ≡ c.batches.packets.items ++ batch.packets = search rules in
    let one : Draws (g.S.Source.end c.batches.source) (g.S.Source.end c.pull.new.source) c.batches.puller c.pull.new.self qs = record { carries = e.stream; follows = e.follows; start = e.start } in
    rw (items, ← is) record {
      draws = draws_then _ _ _ _ _ _ _ _ c.batches.invariant.draws one;
      given = omega (arith, e.given, c.batches.invariant.given, length-append c.batches.packets.items qs);
    }

pub returns-clause-draws : goal.returns-clause-draws
returns-clause-draws g c =
    let e = c.pull.ensures in
    let qs = given_by c.pull.result (λ batch. batch.value.packets) in
    let none : qs ≡ [] = search rules in
    let pulled : Draws (g.S.Source.end c.batches.source) (g.S.Source.end c.pull.new.source) c.batches.puller c.pull.new.self qs = record { carries = e.stream; follows = e.follows; start = e.start } in
    let last : Draws (g.S.Source.end c.batches.source) (g.S.Source.end c.pull.new.source) c.batches.puller c.pull.new.self [] =
    subst (λ packets. Draws (g.S.Source.end c.batches.source) (g.S.Source.end c.pull.new.source) c.batches.puller c.pull.new.self packets) none pulled in
    subst (λ packets. Draws (g.S.Source.end c.args.source.now) (g.S.Source.end c.pull.new.source) c.args.puller.now c.pull.new.self packets) (append-nil c.batches.packets.items)
    (draws_then _ _ _ _ _ _ _ _ c.batches.invariant.draws last)
