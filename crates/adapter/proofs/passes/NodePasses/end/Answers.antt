use Rattle.adapter.proofs.Imports.{rules, ◌≡◌, true, ◌+◌, ◌≤◌, [], ◌∷◌, ap, arith, length-append, nodes, entry_of, response_of, Passed, is_in}
use Rattle.dmx_calls.specs.Invocation as asks
use Rattle.adapter.proofs.Passing.{may_now, next_passed, all_passed, ends_at}
use Rattle.adapter.proofs.passes.NodePasses.end.Goals as goal

pub call-place-requires-clause-left : goal.call-place-requires-clause-left
call-place-requires-clause-left g c = λ p at. may_now c.args.adapter.now (is_in c.args.nodes.now) (λ who. entry_of who asks.End Passed) c.args.self.now c.nodes.node c.nodes.places c.nodes.self p c.nodes.invariant.0 at

pub nodes-preserved : goal.nodes-preserved
nodes-preserved g c =
    let below : c.nodes.node ≤ nodes = search rules in
    let called : is_in c.args.nodes.now c.nodes.node ≡ true = search rules in
    let r = response_of c.call-place.result.1.reply in (
      next_passed c.args.adapter.now (is_in c.args.nodes.now) (λ who. entry_of who asks.End Passed) c.args.self.now c.nodes.node c.call-place.result.0
          (λ who. entry_of who asks.End r) c.nodes.places c.nodes.self c.call-place.new.self below called c.nodes.invariant.0 c.call-place.ensures.call
          (λ who h legal. ap (entry_of who asks.End) (ends_at c.nodes.node h who r legal)),
      search rules,
    )

pub returns-clause-entries : goal.returns-clause-entries
returns-clause-entries g c = let end : c.nodes.node ≡ nodes + 1 = search rules in
    all_passed c.args.adapter.now (is_in c.args.nodes.now) (λ who. entry_of who asks.End Passed) c.args.self.now c.nodes.node c.nodes.places c.nodes.self (rw (← c.adapter.view_is) (omega (arith, length-append c.adapter.inside.demux.items (c.adapter.inside.dvr ∷ []), c.adapter.invariant))) end c.nodes.invariant.0
