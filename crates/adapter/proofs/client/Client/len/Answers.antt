use Rattle.adapter.proofs.Imports.{rules, ℕ, ◌≤◌, subst, sym, refl, Fits, Caller}
use Rattle.adapter.proofs.Mine.{mine_set, fits_same, same_after}
use Rattle.adapter.proofs.client.Client.len.Goals as goal

pub invariant_of-self : goal.invariant_of-self
invariant_of-self c = let o = c.len.ensures in
    let few : c.self.inside.left ≤ o.then.1.left = subst (λ (n : ℕ). c.self.inside.left ≤ n) (sym o.looked.left) (c.self.invariant c.args.node o.first o.was).1 in
    let all : c.self.inside.left ≤ c.self.inside.left = search rules in
    mine_set c.self.inside.who c.self.inside.left c.self.inside.left c.args.node c.self.inside.passes c.len.new.self o.first o.then all o.was o.is o.looked.same.1 few c.self.invariant

pub returns-clause-own : goal.returns-clause-own
returns-clause-own c =
    let own : Fits c.args.adapter.now c.self.inside.passes = subst (λ (v : Caller). Fits c.args.adapter.now v.passes) (sym c.self.view_is) c.requires.own in
    let o = c.len.ensures in
    fits_same c.args.adapter.now c.self.inside.passes c.len.new.self own (same_after c.self.inside.passes c.len.new.self c.args.node o.first o.then o.was o.is o.looked.same)

pub returns-clause-same : goal.returns-clause-same
returns-clause-same c = let o = c.len.ensures in rw (← c.self.view_is) (refl, same_after c.self.inside.passes c.len.new.self c.args.node o.first o.then o.was o.is o.looked.same)
