use Rattle.adapter.proofs.Imports.{rules, ◌<◌, subst, sym, refl, entry_of, Passed, Frontend, caller_of, IsLegalAt, is_in, Fits, Caller}
use Rattle.dmx_calls.specs.Invocation as asks
use Rattle.adapter.proofs.Mine.{may_call, all_mine, all_by_me, fits_same, same_all}
use Rattle.adapter.proofs.feeder.Feeder.feed.Goals as goal

pub feed-places-requires-clause-left : goal.feed-places-requires-clause-left
feed-places-requires-clause-left g c = let some : 0 < c.self.inside.left = search rules in may_call 0 c.self.inside.left c.self.inside.passes some c.self.invariant

pub invariant_of-self : goal.invariant_of-self
invariant_of-self g c = let some : 0 < c.self.inside.left = search rules in
    all_mine 0 c.self.inside.left IsLegalAt (is_in c.args.nodes.now) (λ who. entry_of who (asks.Pass Frontend c.args.batch.value.first c.args.batch.value.packets c.args.now) Passed) c.feed-places.result c.self.inside.passes c.feed-places.new.self some c.self.invariant c.feed-places.ensures.entries

pub returns-clause-entries : goal.returns-clause-entries
returns-clause-entries g c = rw (← c.self.view_is) (all_by_me 0 c.self.inside.left IsLegalAt (is_in c.args.nodes.now) (λ who. entry_of who (asks.Pass Frontend c.args.batch.value.first c.args.batch.value.packets c.args.now) Passed) c.feed-places.result c.self.inside.passes c.feed-places.new.self c.self.invariant c.feed-places.ensures.entries)

pub returns-clause-same : goal.returns-clause-same
returns-clause-same g c = rw (← c.self.view_is) (refl, same_all caller_of IsLegalAt (is_in c.args.nodes.now) (λ who. entry_of who (asks.Pass Frontend c.args.batch.value.first c.args.batch.value.packets c.args.now) Passed) c.feed-places.result c.self.inside.passes c.feed-places.new.self c.feed-places.ensures.entries)

pub returns-clause-own : goal.returns-clause-own
returns-clause-own g c =
    let own : Fits c.args.adapter.now c.self.inside.passes = subst (λ (v : Caller). Fits c.args.adapter.now v.passes) (sym c.self.view_is) c.requires.own in
    fits_same c.args.adapter.now c.self.inside.passes c.feed-places.new.self own (same_all caller_of IsLegalAt (is_in c.args.nodes.now) (λ who. entry_of who (asks.Pass Frontend c.args.batch.value.first c.args.batch.value.packets c.args.now) Passed) c.feed-places.result c.self.inside.passes c.feed-places.new.self c.feed-places.ensures.entries)
