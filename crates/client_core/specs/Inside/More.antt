-- What one reply more adds to the reads that a client repeats (this project's own).
use Rattle.std.specs.Prelude.{ℕ, ◌≡◌, ◌≤◌, ◌+◌, List, [], ◌∷◌, ◌++◌, Some, None, false, if◌then◌else◌}
use Rattle.client_core.specs.Imports.{Again, Read, Response, Scripted}
use Rattle.client_core.specs.declared.event.Event.{Event}
use Rattle.client_core.specs.declared.event.ClientRequest.{ClientRequest}
use Rattle.client_core.specs.declared.event.ClientRequest.TheVariants.{Own}
use Rattle.client_core.specs.Commands.{ends_drain}
use Rattle.client_core.specs.Events.{next_event, waits_on}
use Rattle.client_core.specs.Repeats.{repeats}

-- the reads that this reply may add: one, where it is to a read and ends no drain
abbrev pub added_by : ClientRequest → Response → ℕ
added_by (Own (Read count)) reply = if ends_drain reply then 0 else 1
added_by _ reply = 0

-- One reply more adds at most one repeat; and none after Again, unless the client waits.
abbrev pub OneReplyMore : Type 0
OneReplyMore = (client : ℕ) (script : Scripted) (replies : List Response) (reply : Response) (e : Event)
    → next_event client script replies ≡ Some e
    → (repeats client script (replies ++ reply ∷ []) ≤ repeats client script replies + added_by e.want reply)
    × (reply ≡ Again false → waits_on client script (replies ++ reply ∷ []) ≡ None
    → repeats client script (replies ++ reply ∷ []) ≤ repeats client script replies)
