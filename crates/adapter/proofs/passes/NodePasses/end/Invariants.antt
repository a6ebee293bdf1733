use Rattle.adapter.proofs.Imports.{◌≤◌, entry_of, Passed, is_in}
use Rattle.dmx_calls.specs.Invocation as asks
use Rattle.adapter.proofs.Passing.{PassedTo}
use Rattle.adapter.proofs.passes.NodePasses.end.Given as goal

abbrev pub invariant-nodes : goal.invariant-nodes
invariant-nodes g l = PassedTo l.adapter (is_in l.fn.nodes) (λ who. entry_of who asks.End Passed) l.fn.self l.node l.places l.self × (l.steps ≤ l.fn.steps)
