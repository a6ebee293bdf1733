use Rattle.adapter.proofs.Imports.{rules, ◌≡◌, ◌<◌, subst, sym, refl, true, false, is_ok, told, IsLegalAt, Fits, Caller}
use Rattle.adapter.proofs.Mine.{may_call_at, fits_same}
use Rattle.adapter.proofs.Tries.{same_tried, mine_called, mine_missed, called_by_me}
use Rattle.adapter.proofs.client.Client.try_call.Goals as goal

pub try_call-called-requires-clause-left : goal.try_call-called-requires-clause-left
try_call-called-requires-clause-left g c = let some : 0 < c.self.inside.left = search rules in may_call_at c.self.inside.who c.self.inside.left c.args.node c.self.inside.passes some c.self.invariant

pub invariant_of-self : goal.invariant_of-self
invariant_of-self g c = let some : 0 < c.self.inside.left = search rules in let ok : is_ok c.try_call-called.result ≡ true = search rules in
    mine_called c.self.inside.who c.self.inside.left (IsLegalAt c.args.node) c.args.node (λ x who. told who c.args.call x.1) c.self.inside.passes c.try_call-called.new.self c.try_call-called.result ok some c.self.invariant c.try_call-called.ensures.call

pub invariant_of-self-else-is_ok : goal.invariant_of-self-else-is_ok
invariant_of-self-else-is_ok g c = let bad : is_ok c.try_call-called.result ≡ false = search rules in
    mine_missed c.self.inside.who c.self.inside.left (IsLegalAt c.args.node) c.args.node (λ x who. told who c.args.call x.1) c.self.inside.passes c.try_call-called.new.self c.try_call-called.result bad c.self.invariant c.try_call-called.ensures.held

pub returns-then-is_ok-clause-entry : goal.returns-then-is_ok-clause-entry
returns-then-is_ok-clause-entry g c = rw (← c.self.view_is) (called_by_me c.self.inside.who c.self.inside.left (IsLegalAt c.args.node) c.args.node (λ x who. told who c.args.call x.1) c.self.inside.passes c.try_call-called.new.self c.try_call-called.result c.self.invariant c.try_call-called.ensures.call)

pub returns-then-is_ok-clause-same : goal.returns-then-is_ok-clause-same
returns-then-is_ok-clause-same g c = rw (← c.self.view_is) (refl, same_tried c.self.inside.who c.self.inside.left (IsLegalAt c.args.node) c.args.node (λ x who. told who c.args.call x.1) c.self.inside.passes c.try_call-called.new.self c.try_call-called.result c.try_call-called.ensures.call c.try_call-called.ensures.held)

pub returns-else-is_ok-clause-same : goal.returns-else-is_ok-clause-same
returns-else-is_ok-clause-same g c = rw (← c.self.view_is) (refl, same_tried c.self.inside.who c.self.inside.left (IsLegalAt c.args.node) c.args.node (λ x who. told who c.args.call x.1) c.self.inside.passes c.try_call-called.new.self c.try_call-called.result c.try_call-called.ensures.call c.try_call-called.ensures.held)

pub returns-then-is_ok-clause-own : goal.returns-then-is_ok-clause-own
returns-then-is_ok-clause-own g c =
    let own : Fits c.args.adapter.now c.self.inside.passes = subst (λ (v : Caller). Fits c.args.adapter.now v.passes) (sym c.self.view_is) c.requires.own in
    fits_same c.args.adapter.now c.self.inside.passes c.try_call-called.new.self own (same_tried c.self.inside.who c.self.inside.left (IsLegalAt c.args.node) c.args.node (λ x who. told who c.args.call x.1) c.self.inside.passes c.try_call-called.new.self c.try_call-called.result c.try_call-called.ensures.call c.try_call-called.ensures.held)

pub returns-else-is_ok-clause-own : goal.returns-else-is_ok-clause-own
returns-else-is_ok-clause-own g c =
    let own : Fits c.args.adapter.now c.self.inside.passes = subst (λ (v : Caller). Fits c.args.adapter.now v.passes) (sym c.self.view_is) c.requires.own in
    fits_same c.args.adapter.now c.self.inside.passes c.try_call-called.new.self own (same_tried c.self.inside.who c.self.inside.left (IsLegalAt c.args.node) c.args.node (λ x who. told who c.args.call x.1) c.self.inside.passes c.try_call-called.new.self c.try_call-called.result c.try_call-called.ensures.call c.try_call-called.ensures.held)
