-- A law of the nodes that a script can name.
use Rattle.std.specs.Prelude.{◌≡◌, ℕ, true, List, Some}
use Rattle.workers.specs.Imports.{Event, Response, Scripted, next_event}
use Rattle.workers.specs.Named.{is_named}

-- whatever replies a client of the script has got, its next call is on a node that the script can name
abbrev pub CallsAreOnNamedNodes : Type 0
CallsAreOnNamedNodes =
    (script : Scripted) (client : ℕ) (replies : List Response) (event : Event)
    → next_event client script replies ≡ Some event → is_named script.lines event.node ≡ true
