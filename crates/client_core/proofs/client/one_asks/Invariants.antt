use Rattle.client_core.proofs.Imports.{take, All, CanBegin}
use Rattle.client_core.proofs.client.one_asks.Given as goal

abbrev pub invariant-commands : goal.invariant-commands
invariant-commands l = All (CanBegin 0) (take l.command-index l.commands)
