use Rattle.client_core.proofs.Imports.{rules, arith, ◌≡◌, ◌+◌, ◌∙◌, length, ap, length-append, common_steps}
use Rattle.client_core.proofs.Joining.{short, tied_by}
use Rattle.client_core.proofs.dvr_play.plays.Plays.push.Goals as goal

pub put-requires : goal.put-requires
put-requires c =
    let none : length c.clear.new.self.items ≡ 0 = ap length c.clear.ensures in
    let rest = short c.as_slice-2.result.now in
    let is = ap length c.cut_all-rest.ensures.rest in
    (omega arith, omega (arith, none, rest, is))

pub invariant_of-self-2 : goal.invariant_of-self-2
invariant_of-self-2 c =
    let none : length c.clear.new.self.items ≡ 0 = ap length c.clear.ensures in
    let rest = short c.as_slice-2.result.now in
    let is = ap length c.cut_all-rest.ensures.rest in
    let put = ap length c.put.ensures ∙ length-append c.clear.new.self.items c.cut_all-rest.result.now in
    let longer : length c.push.new.self.items ≡ length c.self.inside.batches.items + 1 = search rules in
    (omega (arith, none, rest, is, put), omega (arith, longer, c.self.invariant.1, c.from.ensures, c.len.ensures.value, c.len.ensures.fits))

pub returns-clause-played : goal.returns-clause-played
returns-clause-played c = grind (arith, common_steps)

pub returns-clause-tied : goal.returns-clause-tied
returns-clause-tied c writes has = tied_by writes c.args.bytes.now c.args.self.now _ (returns-clause-played c) has
