-- What a command does, by small steps, as the code does it: it begins with a task, which stands before a call; after the
-- reply it goes on with the next task, or is through (this project's own).
use Rattle.std.specs.Prelude.{Bool, ℕ, ◌+◌, List, [], ◌∷◌, Option, Some, None, nat_lt, slice_index_or, if◌then◌else◌}
use Rattle.client_core.specs.Imports.{Verb, Attach as AttachTap, Busy, DEMUX_NODES, Detach as DetachTap, Done, Dvr, Keep as KeepTap, Node, Open, Poll, Read, Ready, Response, Slot, TapChange, Target}
use Rattle.client_script.specs.declared.line.Verb.TheVariants as verb
use Rattle.client_core.specs.declared.event.Event.{Event}
use Rattle.client_core.specs.declared.event.ClientRequest.TheVariants as ask
use Rattle.client_core.specs.declared.task.Ending.{Ending}
use Rattle.client_core.specs.declared.task.Ending.TheVariants.{Made, Bound, AllBusy, NoNode, Asked}
use Rattle.client_core.specs.declared.task.Task.{Task}
use Rattle.client_core.specs.declared.task.Task.TheVariants.{Call, ReadWait, Drain, OpenFrom, Attach, Detach, Write, Play}
use Rattle.client_core.specs.declared.task.Next.{Next}
use Rattle.client_core.specs.declared.task.Next.TheVariants.{Still, Through}
use Rattle.client_core.specs.Commands.{Doing, stands, through, ends_wait, ends_drain, Slots}

-- ------ with what it begins

-- on this node; a question for a system time counter is no call, and is answered by what the client has read before
abbrev pub first_on : (node : ℕ) → Verb → (has_batch : Bool) → Next
first_on node (verb.Once want) has_batch = Still (Call node want)
first_on node (verb.ReadWait count) has_batch = Still (ReadWait node count)
first_on node (verb.Drain count) has_batch = Still (Drain node count)
first_on node (verb.GetStc num) has_batch = Through (Asked node num)
first_on node (verb.Write write) has_batch = Still (Write node write has_batch)

-- on the node of a slot
abbrev pub first_at : Option ℕ → Verb → (has_batch : Bool) → Next
first_at None v has_batch = Through NoNode
first_at (Some node) v has_batch = first_on node v has_batch

abbrev pub first_by_slot : (slot : ℕ) → Slots → Verb → (has_batch : Bool) → Next
first_by_slot slot slots (verb.Once Open) has_batch = Still (OpenFrom slot 0)
first_by_slot slot slots v has_batch = first_at (slice_index_or slots slot None) v has_batch

abbrev pub first : Slots → Target → Verb → (has_batch : Bool) → Next
first slots (Node node) v has_batch = first_on node v has_batch
first slots (Slot slot) v has_batch = first_by_slot slot slots v has_batch
first slots Dvr v has_batch = first_on DEMUX_NODES v has_batch

-- ------ before which call a task stands

abbrev pub event_of : Task → (step : ℕ) → Event
event_of (Call node want) step = record { step = step; node = node; want = ask.Own want }
event_of (ReadWait node count) step = record { step = step; node = node; want = ask.Own (Read count) }
event_of (Drain node count) step = record { step = step; node = node; want = ask.Own (Read count) }
event_of (OpenFrom slot node) step = record { step = step; node = node; want = ask.Own Open }
event_of (Attach ending node pids) step = record { step = step; node = DEMUX_NODES; want = ask.Attach node pids }
event_of (Detach ending node) step = record { step = step; node = DEMUX_NODES; want = ask.Detach node }
event_of (Write node write has_batch) step = record { step = step; node = node; want = ask.Own Poll }
event_of (Play write node) step = record { step = step; node = node; want = ask.Pass write }

-- ------ with what it goes on

-- the dvr node is told of the change of a demux node's tap
abbrev pub telling : Ending → (node : ℕ) → TapChange → Next
telling ending node KeepTap = Through ending
telling ending node (AttachTap pids) = Still (Attach ending node pids)
telling ending node DetachTap = Still (Detach ending node)

-- after this reply
abbrev pub after : Task → Response → Next
after (Call node want) (Done from to tap) = if nat_lt node DEMUX_NODES then telling Made node tap else Through Made
after (Call node want) _ = Through Made
after (ReadWait node count) reply = if ends_wait reply then Through Made else Still (ReadWait node count)
after (Drain node count) reply = if ends_drain reply then Through Made else Still (Drain node count)
after (OpenFrom slot node) (Busy owner) =
    if nat_lt (node + 1) DEMUX_NODES then Still (OpenFrom slot (node + 1)) else Through AllBusy
after (OpenFrom slot node) (Done from to tap) = telling (Bound slot node) node tap
after (OpenFrom slot node) _ = Through Made
after (Attach ending node pids) reply = Through ending
after (Detach ending node) reply = Through ending
after (Write node write has_batch) (Ready readable error at ended) =
    if has_batch then Still (Play write 0) else Through Made
after (Write node write has_batch) _ = Through Made
after (Play write node) reply = if nat_lt (node + 1) DEMUX_NODES then Still (Play write (node + 1)) else Through Made

-- what it does from this step on by these replies
abbrev pub doing : Next → (step : ℕ) → List Response → Doing
doing (Through ending) step replies = through ending step replies
doing (Still task) step [] = stands (event_of task step)
doing (Still task) step (reply ∷ replies) = doing (after task reply) (step + 1) replies

-- What a command does from this step on, with these slots, by these replies.
abbrev pub done : Slots → Target → Verb → (has_batch : Bool) → (step : ℕ) → List Response → Doing
done slots target v has_batch step replies = doing (first slots target v has_batch) step replies
