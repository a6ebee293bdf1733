use Rattle.adapter.proofs.Imports.{◌≡◌, ◌≤◌, ◌+◌, ◌*◌, length, entry_of, Passed, Frontend, is_in}
use Rattle.dmx_calls.specs.Invocation as asks
use Rattle.adapter.proofs.Passing.{PassedTo}
use Rattle.adapter.proofs.passes.NodePasses.feed.Given as goal

abbrev pub invariant-nodes : goal.invariant-nodes
invariant-nodes g l = PassedTo l.adapter (is_in l.fn.nodes) (λ who. entry_of who (asks.Pass Frontend l.fn.batch.value.first l.fn.batch.value.packets l.fn.now) Passed) l.fn.self l.node l.places l.self × (l.batch.value ≡ l.fn.batch.value) × (l.steps ≤ l.fn.steps + l.node * length l.fn.batch.value.packets)
