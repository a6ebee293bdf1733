-- What a client does: its commands one after another, in the order of their lines, its calls numbered from 0 over all nodes.
use Rattle.std.specs.Prelude.{ℕ, ◌≡◌, ◌+◌, List, [], ◌∷◌, ◌++◌, length, None, Some}
use Rattle.client_laws.specs.Imports.{ClientCommand, Ended, Response, Scripted, Slots, Standing, commands_of, flat_map, no_slots, progress, slots_after}
use Rattle.client_laws.specs.Verbs.{CommandCall, Makes, replies_to}

-- Commands of a client, of which so many are through: each has made these calls, as its verb says, and ended so; its first call
-- has the number behind those of the command before it, and a slot that was bound stays so until an open binds it anew.
abbrev pub AreMade : Slots → (step : ℕ) → List ClientCommand → (calls : List (List CommandCall)) → List Ended → Type 0
AreMade slots step commands [] [] = Unit {0}
AreMade slots step (c ∷ cs) (calls ∷ more) (e ∷ es) =
    Makes slots c.target c.verb c.has_batch calls e.ending
    × (e.line ≡ c.line) × (e.from ≡ step) × (e.to ≡ step + length calls)
    × AreMade (slots_after e.ending slots) e.to cs more es
AreMade slots step commands calls ended = ⊥

-- all replies to these calls, in order
abbrev pub replies_in : (calls : List (List CommandCall)) → List Response
replies_in calls = flat_map replies_to calls

-- How far a client is after these replies.
pub record HasCome (client : ℕ) (script : Scripted) (replies : List Response) : Type 0 where
  -- the calls of each command that is through, and the replies behind those to them
  pub calls : List (List CommandCall)
  pub made : AreMade no_slots 0 (commands_of client script) calls (progress client script replies).ended
  pub behind : List Response
  pub own : replies ≡ replies_in calls ++ behind
  -- where a command stands it has the replies behind them, and its next call has the number of all replies; where none does, all
  -- are through
  pub standing : (s : Standing) → (progress client script replies).standing ≡ Some s
      → (s.from ≡ length (replies_in calls)) × (s.event.step ≡ length replies)
  pub over : (progress client script replies).standing ≡ None → length calls ≡ length (commands_of client script)

abbrev pub ClientsDoTheirCommands : Type 0
ClientsDoTheirCommands = (client : ℕ) (script : Scripted) (replies : List Response) → HasCome client script replies
