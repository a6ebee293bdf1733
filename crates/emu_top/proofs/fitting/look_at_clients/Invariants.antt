use Rattle.emu_top.proofs.Imports.{take, All, IsOutcomeInRange}
use Rattle.emu_top.proofs.fitting.look_at_clients.Given as goal

abbrev pub invariant-clients : goal.invariant-clients
invariant-clients l = All (λ those. All IsOutcomeInRange those.items) (take l.outcomes-index l.clients)
