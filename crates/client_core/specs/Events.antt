-- The events of one client: its calls, one after another, by the replies that it gets (this project's own).
use Rattle.std.specs.Prelude.{ℕ, false, List, [], ◌∷◌, Option, Some, None, option_map, nat_lt, nat_eq, replicate, slice_set, if◌then◌else◌}
use Rattle.client_core.specs.Imports.{Again, DEMUX_NODES, Read, Response, Scripted}
use Rattle.client_core.specs.declared.command.ClientCommand.{ClientCommand}
use Rattle.client_core.specs.declared.event.Event.{Event}
use Rattle.client_core.specs.declared.event.ClientRequest.{ClientRequest}
use Rattle.client_core.specs.declared.event.ClientRequest.TheVariants.{Own}
use Rattle.client_core.specs.declared.task.Ending.{Ending}
use Rattle.client_core.specs.declared.task.Ending.TheVariants.{Bound}
use Rattle.client_core.specs.Commands.{commands_of, stands, through, Slots}
use Rattle.client_core.specs.Steps.{done}

-- an open of a slot that succeeds binds it
abbrev pub slots_after : Ending → Slots → Slots
slots_after (Bound slot node) slots = slice_set slots slot (Some node)
slots_after _ slots = slots

-- a command that stands before a call: its line, the step of its first call, and the call
pub record Standing : Type 0 where
  pub line : ℕ
  pub from : ℕ
  pub event : Event

-- a command that is through: its line, the step of its first call, the step after its last, and how it ended
pub record Ended : Type 0 where
  pub line : ℕ
  pub from : ℕ
  pub to : ℕ
  pub ending : Ending

-- how far a client is: the commands that are through, in the order of their lines, and the command that isn't, if
-- there is one
pub record Progress : Type 0 where
  pub ended : List Ended
  pub standing : Option Standing

abbrev pub with_ended : Ended → Progress → Progress
with_ended command p = record { ended = command ∷ p.ended; standing = p.standing }

-- These commands are done one after another from this step on. Each uses up its own of the
-- replies and leaves the rest to the next.
abbrev pub progress_from : Slots → (step : ℕ) → List ClientCommand → List Response → Progress
progress_from slots step [] replies = record { ended = []; standing = None }
progress_from slots step (c ∷ cs) replies = elim (done slots c.target c.verb c.has_batch step replies) [
  | stands event ↦ record { ended = []; standing = Some (record { line = c.line; from = step; event = event }) }
  | through ending next left ↦
      with_ended (record { line = c.line; from = step; to = next; ending = ending })
      (progress_from (slots_after ending slots) next cs left)
]

-- at first no slot is bound
abbrev pub no_slots : Slots
no_slots = replicate DEMUX_NODES None

-- How far a client of a script is after these replies.
unfoldable pub progress : (client : ℕ) → Scripted → List Response → Progress
progress client script replies = progress_from no_slots 0 (commands_of client script) replies

-- the call that it makes next
abbrev pub next_event : (client : ℕ) → Scripted → List Response → Option Event
next_event client script replies = option_map (λ s. s.event) (progress client script replies).standing

-- the node on which a call reads, if it does
abbrev pub reading : ClientRequest → (node : ℕ) → Option ℕ
reading (Own (Read count)) node = Some node
reading _ node = None

abbrev pub reading_on : Event → Option ℕ
reading_on event = reading event.want event.node

-- the node on which it waits: the last reply was Again, and what stands there repeats the read
abbrev pub waits_after : Option Standing → List Response → Option ℕ
waits_after None replies = None
waits_after (Some s) [] = None
waits_after (Some s) (Again false ∷ []) = if nat_lt s.from s.event.step then reading_on s.event else None
waits_after (Some s) (reply ∷ []) = None
waits_after (Some s) (reply ∷ next ∷ more) = waits_after (Some s) (next ∷ more)

abbrev pub waits_on : (client : ℕ) → Scripted → List Response → Option ℕ
waits_on client script replies = waits_after (progress client script replies).standing replies

-- the call before which the command of a line stands; None where the command is through
abbrev pub standing_at : (line : ℕ) → Option Standing → Option Event
standing_at line None = None
standing_at line (Some s) = if nat_eq s.line line then Some s.event else None

abbrev pub next_of_line : (client : ℕ) → Scripted → (line : ℕ) → List Response → Option Event
next_of_line client script line replies = standing_at line (progress client script replies).standing
