-- The commands of a script that the requests of a line spell, with the calls by which they are done.
use Rattle.std.specs.Prelude.{false, ◌≡◌, ◌++◌, ◌+◌, ◌-◌, ◌^◌, ℕ, nat_eq, nat_lt, if◌then◌else◌, List, [], ◌∷◌, length, None}
use Rattle.seats.specs.Imports.{Batches, ClientCommand, Counters, DEMUX_NODES, Dvr, Ending, LogEntry, Next, Node, Once, Outcome, OutcomeKind, Slots, Still, Target, Task, Through, Want, act_of, after, call_of, event_of, first, flat_map, kind_by}

-- a command that was done: on what, what was asked, the calls that were made for it, and how it ended
pub record DoneCommand : Type 0 where
  pub target : Target
  pub want : Want
  pub calls : List LogEntry
  pub ending : Ending

abbrev pub done_command : Target → Want → List LogEntry → Ending → DoneCommand
done_command target want calls ending = record { target = target; want = want; calls = calls; ending = ending }

-- the calls of these, one after another
abbrev pub calls_in : List DoneCommand → List LogEntry
calls_in commands = flat_map (λ d. d.calls) commands

-- a node, as a script names it
abbrev pub target_of : (node : ℕ) → Target
target_of node = if nat_eq node DEMUX_NODES then Dvr else Node node

-- ------ how they are done

-- before this call a command stands that has this left to do, at this moment and whatever its client plays
abbrev pub IsCallOf : (now : ℕ) → Task → LogEntry → Type 0
IsCallOf now task e =
    (e.node ≡ (event_of task 0).node) × ((batches : Batches) → e.act ≡ act_of (call_of batches (event_of task 0).want now))

-- These calls are what a command does from there on: each is the one before which it stands, by the replies to those before, and
-- behind them it is through, and ends so.
abbrev pub GoesThrough : (now : ℕ) → Next → Ending → List LogEntry → Type 0
GoesThrough now (Through last) ending calls = (calls ≡ []) × (ending ≡ last)
GoesThrough now (Still task) ending [] = ⊥
GoesThrough now (Still task) ending (e ∷ es) = IsCallOf now task e × GoesThrough now (after task e.response) ending es

-- it was done by its calls at this moment, as a client does it, whatever nodes its slots are bound to
abbrev pub IsDone : (now : ℕ) → DoneCommand → Type 0
IsDone now d = (slots : Slots) → GoesThrough now (first slots d.target (Once d.want) false) d.ending d.calls

-- ------ what is told of them

-- the number of the line of a command behind so many: the next one, as far as a line can have it
abbrev pub line_behind : (count : ℕ) → ℕ
line_behind count = if nat_lt count (2 ^ 32 - 1) then count + 1 else 2 ^ 32 - 1

-- these as commands of a client, behind so many
abbrev pub commands_by : (count : ℕ) → List DoneCommand → List ClientCommand
commands_by count [] = []
commands_by count (d ∷ ds) =
    record { line = line_behind count; target = d.target; verb = Once d.want; has_batch = false } ∷ commands_by (count + 1) ds

-- what became of a command behind so many, with the number of its first call and the one behind its last
abbrev pub outcome_at : (count from to : ℕ) → OutcomeKind → Outcome
outcome_at count from to kind = record { line = line_behind count; from = from; to = to; kind = kind }

-- no counter is known: a command that has made calls asks for none
abbrev pub no_counters : Counters
no_counters node num = None

-- what became of these, behind so many commands and calls
abbrev pub outcomes_by : (count step : ℕ) → List DoneCommand → List Outcome
outcomes_by count step [] = []
outcomes_by count step (d ∷ ds) =
    outcome_at count step (step + length d.calls) (kind_by no_counters d.ending)
    ∷ outcomes_by (count + 1) (step + length d.calls) ds

-- what is told of commands has grown by these, which were done behind so many commands and calls
abbrev pub AreKept : (count step : ℕ) → List DoneCommand → (was now : List Outcome) → Type 0
AreKept count step commands was now = now ≡ was ++ outcomes_by count step commands
