-- The packets that a client plays, on each demux node (this project's own).
use Rattle.std.specs.Prelude.{ℕ, ◌≡◌, ◌<◌, true, List, [], ◌∷◌, ◌++◌, None, nat_eq, if◌then◌else◌}
use Rattle.client_core.specs.Imports.{DEMUX_NODES, Ready, Response, Scripted}
use Rattle.client_core.specs.declared.task.Task.TheVariants.{Write}
use Rattle.client_core.specs.declared.task.Next.{Next}
use Rattle.client_core.specs.declared.task.Next.TheVariants.{Still}
use Rattle.client_core.specs.declared.command.ClientCommand.{ClientCommand}
use Rattle.client_core.specs.declared.event.Event.{Event}
use Rattle.client_core.specs.declared.event.ClientRequest.{ClientRequest}
use Rattle.client_core.specs.declared.event.ClientRequest.TheVariants.{Pass}
use Rattle.client_core.specs.Commands.{Slots, stands, through, commands_of}
use Rattle.client_core.specs.Steps.{first, done}
use Rattle.client_core.specs.Events.{slots_after, no_slots, next_event}
use Rattle.client_core.specs.Stc.{Exchange, exchanges}

-- ------ the passes of a client

-- the write whose batch passes, if a pass is asked for
abbrev pub pass_in : ClientRequest → List ℕ
pass_in (Pass write) = write ∷ []
pass_in _ = []

-- the write whose batch passes this node by this call, if one does
abbrev pub pass_at : (node : ℕ) → Event → List ℕ
pass_at node event = if nat_eq event.node node then pass_in event.want else []

-- the writes whose batches passed this node, in the order of the calls
abbrev pub passes_on : (node : ℕ) → List Exchange → List ℕ
passes_on node [] = []
passes_on node (x ∷ older) = passes_on node older ++ pass_at node x.event

-- ------ the writes that are played

-- a write that completes a packet, where the first of its replies, that to its poll, is Ready
abbrev pub played_by : Next → List Response → List ℕ
played_by (Still (Write node write true)) (Ready readable error at ended ∷ replies) = write ∷ []
played_by next replies = []

-- the writes of these commands that are played, in the order of their lines
abbrev pub played_from : Slots → (step : ℕ) → List ClientCommand → List Response → List ℕ
played_from slots step [] replies = []
played_from slots step (c ∷ cs) replies =
    played_by (first slots c.target c.verb c.has_batch) replies ++ (elim (done slots c.target c.verb c.has_batch step replies) [
      | stands event ↦ []
      | through ending next left ↦ played_from (slots_after ending slots) next cs left
    ])

unfoldable pub played_writes : (client : ℕ) → Scripted → List Response → List ℕ
played_writes client script replies = played_from no_slots 0 (commands_of client script) replies

-- Once the commands of a client are through, its passes on each demux node are, in order and each once, those of its
-- writes whose poll was Ready and which complete a packet.
abbrev pub WritesPass : Type 0
WritesPass = (client : ℕ) (script : Scripted) (replies : List Response) (node : ℕ)
    → next_event client script replies ≡ None → node < DEMUX_NODES
    → passes_on node (exchanges client script replies) ≡ played_writes client script replies
