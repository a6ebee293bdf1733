-- That the small steps by which a command is defined come to what its verb says.
use Rattle.std.specs.Prelude.{ℕ, ◌≡◌, ◌+◌, Bool, List, [], ◌++◌, length, take, slice_get, Some}
use Rattle.client_laws.specs.Imports.{Ending, Event, Response, Slots, Target, Verb, done, stands, through}
use Rattle.client_laws.specs.Verbs.{CommandCall, Makes, replies_to}

-- a call as the one with this number among its client's
abbrev pub event_at : (step : ℕ) → CommandCall → Event
event_at step c = record { step = step; node = c.node; want = c.want }

-- A command is through by these replies, at this step: it has made calls as its verb says, and so many; their replies are the
-- first of these, in order, and the others are left; and it stood before each call by the replies to those before it.
pub record HasMade (slots : Slots) (target : Target) (verb : Verb) (has_batch : Bool) (step : ℕ) (replies : List Response)
    (ending : Ending) (next : ℕ) (left : List Response) : Type 0 where
  pub calls : List CommandCall
  pub makes : Makes slots target verb has_batch calls ending
  pub own : replies ≡ replies_to calls ++ left
  pub many : next ≡ step + length calls
  pub stood : (i : ℕ) (c : CommandCall) → slice_get calls i ≡ Some c
      → done slots target verb has_batch step (take i replies) ≡ stands (event_at (step + i) c)

-- Where a command is through, it has made calls as its verb says.
abbrev pub CommandsMakeCalls : Type 0
CommandsMakeCalls =
    (slots : Slots) (target : Target) (verb : Verb) (has_batch : Bool) (step : ℕ) (replies : List Response)
    (ending : Ending) (next : ℕ) (left : List Response)
    → done slots target verb has_batch step replies ≡ through ending next left
    → HasMade slots target verb has_batch step replies ending next left

-- By the replies to calls as its verb says, a command is through, whatever replies come behind them.
abbrev pub CallsEndCommands : Type 0
CallsEndCommands =
    (slots : Slots) (target : Target) (verb : Verb) (has_batch : Bool) (step : ℕ) (calls : List CommandCall)
    (ending : Ending) (left : List Response)
    → Makes slots target verb has_batch calls ending
    → done slots target verb has_batch step (replies_to calls ++ left) ≡ through ending (step + length calls) left

-- Wherever a command stands, there are replies by which it is through: so the call before which it stands is the next of
-- calls as its verb says.
abbrev pub CommandsCanEnd : Type 0
CommandsCanEnd =
    (slots : Slots) (target : Target) (verb : Verb) (has_batch : Bool) (step : ℕ) (replies : List Response) (event : Event)
    → done slots target verb has_batch step replies ≡ stands event
    → (more : List Response) × (ending : Ending) × (next : ℕ)
    × (done slots target verb has_batch step (replies ++ more) ≡ through ending next [])
