-- What became of the commands of a client (this project's own).
use Rattle.std.specs.Prelude.{ℕ, List, Option, Some, None, map, take}
use Rattle.client_core.specs.Imports.{Outcome, OutcomeKind, Response, Scripted}
use Rattle.dmx_calls.specs.declared.outcome.OutcomeKind.TheVariants.{Done, Emfile, Unbound, Stc, NoStc}
use Rattle.client_core.specs.declared.task.Ending.{Ending}
use Rattle.client_core.specs.declared.task.Ending.TheVariants.{AllBusy, NoNode, Asked}
use Rattle.client_core.specs.Events.{Ended, progress}
use Rattle.client_core.specs.Stc.{exchanges, stc}

-- the system time counters by node and number
abbrev pub Counters : Type 0
Counters = (node num : ℕ) → Option ℕ

-- a counter that is read, in units of 27 MHz, or none
abbrev pub stc_kind : Option ℕ → OutcomeKind
stc_kind None = NoStc
stc_kind (Some value) = Stc 300 value

-- how a command ended, by the counters of its client
abbrev pub kind_by : Counters → Ending → OutcomeKind
kind_by counters AllBusy = Emfile
kind_by counters NoNode = Unbound
kind_by counters (Asked node num) = stc_kind (counters node num)
kind_by counters _ = Done

abbrev pub outcome_by : Counters → Ended → Outcome
outcome_by counters e = record { line = e.line; from = e.from; to = e.to; kind = kind_by counters e.ending }

-- the counters of a client after these replies
abbrev pub counters_after : (client : ℕ) → Scripted → List Response → Counters
counters_after client script replies node num = stc node num (exchanges client script replies)

-- the outcome of a command: a counter is that of the replies to the commands before it
abbrev pub outcome_of : (client : ℕ) → Scripted → List Response → Ended → Outcome
outcome_of client script replies e = outcome_by (counters_after client script (take e.from replies)) e

-- What became of the commands that are through after these replies, in the order of their lines.
abbrev pub outcomes : (client : ℕ) → Scripted → List Response → List Outcome
outcomes client script replies = map (outcome_of client script replies) (progress client script replies).ended
