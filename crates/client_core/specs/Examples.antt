-- What no session shows, worked out by hand: a client in the middle of a command. The sessions of examples/rows have the other
-- examples.
use Rattle.std.specs.Prelude.{◌≡◌, ℕ, List, [], ◌∷◌, Some, None, true, false}
use Rattle.client_core.specs.Imports.{Again, Command, Done, Frontend, GetStc, Keep, Node, Once, Open, Outcome, Pes, ReadWait, Response, Scripted, Start, TsdemuxTap, plain}
use Rattle.dmx_calls.specs.declared.outcome.OutcomeKind.TheVariants.{Done as WasDone}
use Rattle.client_core.specs.Events.{waits_on}
use Rattle.client_core.specs.Outcomes.{outcomes}

-- a node is opened, set and started; a read waits for bytes, and the system time counter is asked for behind it
abbrev pub waiting : Scripted
waiting =
    plain (Command 1 0 (Node 0) (Once Open)
    ∷ Command 2 0 (Node 0) (Once (Pes (record { pid = 256; input = Frontend; output = TsdemuxTap; pes_type = 4; flags = 0 })))
    ∷ Command 3 0 (Node 0) (Once Start) ∷ Command 4 0 (Node 0) (ReadWait 2) ∷ Command 5 0 (Node 0) (GetStc 0) ∷ [])

-- the three calls before the read are done, with this reply to the read
abbrev pub then : Response → List Response
then read = Done 0 0 Keep ∷ Done 0 0 Keep ∷ Done 0 0 Keep ∷ read ∷ []

abbrev pub done_line : (line from to : ℕ) → Outcome
done_line line from to = record { line = line; from = from; to = to; kind = WasDone }

-- while the client waits, neither the read nor the question behind it is through
abbrev pub WaitsOnItsNode : Type 0
WaitsOnItsNode =
    (waits_on 0 waiting (then (Again false)) ≡ Some 0)
    × (waits_on 0 waiting (then (Again true)) ≡ None)
    × (outcomes 0 waiting (then (Again false)) ≡ done_line 1 0 1 ∷ done_line 2 1 2 ∷ done_line 3 2 3 ∷ [])
