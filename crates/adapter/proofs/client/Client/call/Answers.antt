use Rattle.adapter.proofs.Imports.{rules, ◌<◌, subst, sym, refl, told, IsLegalAt, Fits, Caller}
use Rattle.adapter.proofs.Mine.{may_call_at, mine_after, by_me, fits_same, same_after}
use Rattle.adapter.proofs.client.Client.call.Goals as goal

pub call-called-requires-clause-left : goal.call-called-requires-clause-left
call-called-requires-clause-left g c = let some : 0 < c.self.inside.left = search rules in may_call_at c.self.inside.who c.self.inside.left c.args.node c.self.inside.passes some c.self.invariant

pub invariant_of-self : goal.invariant_of-self
invariant_of-self g c = let some : 0 < c.self.inside.left = search rules in
    mine_after c.self.inside.who c.self.inside.left (IsLegalAt c.args.node) c.args.node (λ who. told who c.args.call c.call-called.result.1) c.call-called.result.0 c.self.inside.passes c.call-called.new.self some c.self.invariant c.call-called.ensures.call

pub returns-clause-entry : goal.returns-clause-entry
returns-clause-entry g c = rw (← c.self.view_is) (by_me c.self.inside.who c.self.inside.left (IsLegalAt c.args.node) c.args.node (λ who. told who c.args.call c.call-called.result.1) c.call-called.result.0 c.self.inside.passes c.call-called.new.self c.self.invariant c.call-called.ensures.call)

pub returns-clause-own : goal.returns-clause-own
returns-clause-own g c =
    let own : Fits c.args.adapter.now c.self.inside.passes = subst (λ (v : Caller). Fits c.args.adapter.now v.passes) (sym c.self.view_is) c.requires.own in
    let o = c.call-called.ensures.call in
    fits_same c.args.adapter.now c.self.inside.passes c.call-called.new.self own (same_after c.self.inside.passes c.call-called.new.self c.args.node o.first o.then o.was o.is o.more.same)

pub returns-clause-same : goal.returns-clause-same
returns-clause-same g c = let o = c.call-called.ensures.call in rw (← c.self.view_is) (refl, same_after c.self.inside.passes c.call-called.new.self c.args.node o.first o.then o.was o.is o.more.same)
