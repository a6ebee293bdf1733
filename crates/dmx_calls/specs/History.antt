-- Histories of one node (this project's own).
use Rattle.std.specs.Prelude.{ℕ, Bool, true, false, List, [], ◌∷◌, ◌++◌, filter, Option, Some, None, if◌then◌else◌}
use Rattle.std.specs.Option.{option_or}
use Rattle.dmx_calls.specs.Invocation.{Invocation, brought}
use Rattle.dmx_calls.specs.Response.{Response, is_accepted}

-- it has no element
abbrev pub is_empty : {A : Type 0} → List A → Bool
is_empty [] = true
is_empty (x ∷ xs) = false

-- one call: its caller's number, the call, its response
pub record Entry : Type 0 where
  pub who : ℕ
  pub invocation : Invocation
  pub response : Response

abbrev pub entry_of : (who : ℕ) → Invocation → Response → Entry
entry_of who invocation response = record { who = who; invocation = invocation; response = response }

-- The NEWEST entry stands first: so the tail behind an entry is its past, and one more call is one entry in front.
abbrev pub History : Type 0
History = List Entry

-- an entry with its past, the whole history before it
pub record Event : Type 0 where
  pub entry : Entry
  pub before : History

abbrev pub event : Entry → History → Event
event e h = record { entry = e; before = h }

-- the events of a history, the newest first
abbrev pub events : History → List Event
events [] = []
events (e ∷ h) = event e h ∷ events h

-- the packets of all passes, in the order of the passes
abbrev pub brought_by : History → List (List ℕ)
brought_by [] = []
brought_by (e ∷ h) = brought_by h ++ brought e.invocation

-- the events of accepted entries
abbrev pub accepted : History → List Event
accepted h = filter (λ ev. is_accepted ev.entry.response) (events h)

-- an event that began something, and the events after it, the newest first
pub record Since : Type 0 where
  pub by : Event
  pub after : List Event

-- with one event more
abbrev pub also : Event → Option Since → Option Since
also ev None = None
also ev (Some s) = Some (record { by = s.by; after = ev ∷ s.after })

-- What the last event that begins something began: that event and those after it. There is nothing
-- where an event that ends it comes after it.
abbrev pub since : (Event → Bool) → (Event → Bool) → List Event → Option Since
since begins ends [] = None
since begins ends (ev ∷ evs) =
    if begins ev then Some (record { by = ev; after = [] })
    else (if ends ev then None else also ev (since begins ends evs))

abbrev pub after_of : Option Since → List Event
after_of None = []
after_of (Some s) = s.after

-- the same with the event that began it, which is the oldest
abbrev pub whole_of : Option Since → List Event
whole_of None = []
whole_of (Some s) = s.after ++ s.by ∷ []

-- what the last of these events that answers says
abbrev pub newest : {A : Type 0} → (Event → Option A) → List Event → Option A
newest answer [] = None
newest answer (ev ∷ evs) = option_or (answer ev) (newest answer evs)
