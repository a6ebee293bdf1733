-- Steps that are taken node by node.
use Rattle.adapter.proofs.Imports.{rules, ◌≡◌, true, ℕ, ◌+◌, ◌*◌, ◌≤◌, length, [], ◌∷◌, ap, ◌∙◌, subst, arith, length-append, nodes, entry_of, response_of, Passed, Frontend, Packets, is_in, suc-mul}
use Rattle.dmx_calls.specs.Invocation as asks
use Rattle.adapter.proofs.Passing.{may_now, next_passed, all_passed, passes_at}
use Rattle.adapter.proofs.passes.NodePasses.feed.Goals as goal

pub one_node_more : (start now next node n : ℕ) → now ≤ start + node * n → next ≤ now + n → next ≤ start + (node + 1) * n
one_node_more start now next node n a b = let e = suc-mul node n in omega (arith, e)

pub call-place-requires-clause-left : goal.call-place-requires-clause-left
call-place-requires-clause-left g c = λ p at. may_now c.args.adapter.now (is_in c.args.nodes.now) (λ who. entry_of who (asks.Pass Frontend c.args.batch.value.first c.args.batch.value.packets c.args.now) Passed) c.args.self.now c.nodes.node c.nodes.places c.nodes.self p c.nodes.invariant.0 at

pub nodes-preserved : goal.nodes-preserved
nodes-preserved g c =
    let below : c.nodes.node ≤ nodes = search rules in
    let called : is_in c.args.nodes.now c.nodes.node ≡ true = search rules in
    let b = c.args.batch.value in let r = response_of c.call-place.result.1.reply in
    let same : c.nodes.batch.value ≡ b = c.nodes.invariant.1 in (
      next_passed c.args.adapter.now (is_in c.args.nodes.now) (λ who. entry_of who (asks.Pass Frontend b.first b.packets c.args.now) Passed) c.args.self.now c.nodes.node c.call-place.result.0
          (λ who. entry_of who (asks.Pass Frontend c.nodes.batch.value.first c.nodes.batch.value.packets c.args.now) r) c.nodes.places c.nodes.self c.call-place.new.self below called c.nodes.invariant.0 c.call-place.ensures.call
          (λ who h legal. ap (λ (v : Packets). entry_of who (asks.Pass Frontend v.first v.packets c.args.now) r) same
          ∙ ap (entry_of who (asks.Pass Frontend b.first b.packets c.args.now)) (passes_at c.nodes.node h who Frontend c.nodes.batch.value.first c.nodes.batch.value.packets c.args.now r legal)),
      search rules,
      one_node_more c.args.steps.now c.nodes.steps c.call-place.new.steps c.nodes.node (length b.packets) c.nodes.invariant.2 (subst (λ (v : Packets). c.call-place.new.steps ≤ c.nodes.steps + length v.packets) same c.call-place.ensures.cost),
    )

pub returns-clause-entries : goal.returns-clause-entries
returns-clause-entries g c = let end : c.nodes.node ≡ nodes + 1 = search rules in
    all_passed c.args.adapter.now (is_in c.args.nodes.now) (λ who. entry_of who (asks.Pass Frontend c.args.batch.value.first c.args.batch.value.packets c.args.now) Passed) c.args.self.now c.nodes.node c.nodes.places c.nodes.self (rw (← c.adapter.view_is) (omega (arith, length-append c.adapter.inside.demux.items (c.adapter.inside.dvr ∷ []), c.adapter.invariant))) end c.nodes.invariant.0

pub returns-clause-cost : goal.returns-clause-cost
returns-clause-cost g c = let end : c.nodes.node ≡ nodes + 1 = search rules in subst (λ (n : ℕ). c.nodes.steps ≤ c.args.steps.now + n * length c.args.batch.value.packets) end c.nodes.invariant.2
