-- What a client core keeps, and the replies after which it stands.
use Rattle.std.specs.Prelude.{ℕ, false, ◌≡◌, ◌≤◌, ◌*◌, ◌⊎◌, List, [], ◌∷◌, ◌++◌, length, map, Option, Some, None, option_map, All, IfSome, IfNone}
use Rattle.client_core.specs.Imports.{Again, Command as CommandLine, HasVerb, IsTargetInRange, IsVerbInRange, Line, Outcome, Response, Scripted}
use Rattle.client_core.specs.Plays.{Batches, PlaysOf}
use Rattle.client_core.specs.declared.command.ClientCommand.{ClientCommand}
use Rattle.client_core.specs.declared.event.Event.{Event}
use Rattle.client_core.specs.declared.current.Current.{Current}
use Rattle.client_core.specs.Commands.{Doing, stands, through, Slots, plays_of}
use Rattle.client_core.specs.Steps.{doing}
use Rattle.client_core.specs.declared.task.Next.TheVariants.{Still}
use Rattle.client_core.specs.Events.{Ended, Progress, with_ended, slots_after, progress_from, waits_after, waits_on, progress}
use Rattle.client_core.specs.Stc.{Exchange, with_reply, exchanges}
use Rattle.client_core.specs.Outcomes.{outcome_by, outcome_of}
use Rattle.client_core.specs.Inside.Clocks.{NodeClock, counter_in, HaveFollowed, AreFew}
use Rattle.client_core.specs.Inside.Tasks.{IsTaskInRange, IsTaskOf, IsCallEnding, CanAsk, HasClock, AreSlots}

-- a command that is begun, and the commands behind it
abbrev pub ahead : (line from : ℕ) → Slots → List ClientCommand → Doing → Progress
ahead line from slots cs d = elim d [
  | stands event ↦ record { ended = []; standing = Some (record { line = line; from = from; event = event }) }
  | through ending next left ↦
      with_ended (record { line = line; from = from; to = next; ending = ending })
      (progress_from (slots_after ending slots) next cs left)
]

abbrev pub coming_from : Option Current → (step : ℕ) → Slots → List ClientCommand → List Response → Progress
coming_from None step slots cs replies = progress_from slots step cs replies
coming_from (Some c) step slots cs replies = ahead c.line c.from slots cs (doing (Still c.task) step replies)

abbrev pub behind : List Ended → Progress → Progress
behind ended p = record { ended = ended ++ p.ended; standing = p.standing }

-- What a contract sees of a core: the commands that aren't begun, the one that is, the slots, how many replies were
-- taken, the node on which it waits, the clocks that it keeps, the batches of its writes, and the outcomes of the commands
-- that are through.
pub record Core : Type 0 where
  pub left : List ClientCommand
  pub current : Option Current
  pub slots : Slots
  pub step : ℕ
  pub waits : Option ℕ
  pub clocks : List NodeClock
  pub plays : Batches
  pub outcomes : List Outcome

-- how far the client comes from here on by these replies
abbrev pub coming : Core → List Response → Progress
coming c replies = coming_from c.current c.step c.slots c.left replies

abbrev pub IsCommandInRange : ClientCommand → Type 0
IsCommandInRange c = IsTargetInRange c.target × IsVerbInRange c.verb

-- where it asks for a counter, so many kept clocks are enough
abbrev pub CanBegin : (kept : ℕ) → ClientCommand → Type 0
CanBegin kept c = CanAsk kept c.verb

-- a line's command of this client names one of so many writes, if it names one
abbrev pub IsMade : (client count : ℕ) → Line → Type 0
IsMade client count (CommandLine line who target verb) = who ≡ client → HasVerb count verb
IsMade client count _ = Unit {0}

-- where it is to pass a batch, this is among these
abbrev pub IsCommandOf : Batches → ClientCommand → Type 0
IsCommandOf batches c = PlaysOf batches c.verb c.has_batch

abbrev pub one_if_some : {A : Type 0} → Option A → ℕ
one_if_some None = 0
one_if_some (Some x) = 1

-- slots and commands have their ranges
pub record IsSound (c : Core) : Type 0 where
  pub bound : AreSlots c.slots
  pub ranges : All IsCommandInRange c.left
  pub task : IfSome c.current (λ cur. IsTaskInRange cur.task × (cur.from ≤ c.step))
  -- where no command is begun, none is left
  pub ended : IfNone c.current (c.left ≡ [])
  -- where a command asks for a counter, the clocks are kept
  pub asked : All (CanBegin (length c.clocks)) c.left
  -- the batches that are to pass are there
  pub played : All (IsCommandOf c.plays) c.left
  pub playing : IfSome c.current (λ cur. IsTaskOf c.plays cur.task)
  -- a reply has at most 65,536 bytes
  pub few : AreFew (65536 * c.step) c.clocks

-- The core stands after these replies to a client of a script: whatever replies come, it goes on as the script says; its
-- outcomes are those of the commands that are through, and its clocks have followed the calls.
pub record IsAfter (client : ℕ) (script : Scripted) (replies : List Response) (c : Core) : Type 0 where
  pub ended : List Ended
  pub goes_on : (more : List Response) → progress client script (replies ++ more) ≡ behind ended (coming c more)
  pub outcomes : c.outcomes ≡ map (outcome_of client script replies) ended
  -- none began later
  pub early : All (λ e. e.from ≤ length replies) ended
  pub followed : HaveFollowed (exchanges client script replies) c.clocks
  pub steps : c.step ≡ length replies
  pub plays : c.plays ≡ plays_of client script
  pub waits : c.waits ≡ waits_on client script replies

-- the call before which it stands
abbrev pub next_of : Core → Option Event
next_of c = option_map (λ s. s.event) (coming c []).standing

-- a command that is through at this step: it began here, or has made a call
pub record IsLate (kept step : ℕ) (e : Ended) : Type 0 where
  pub from : e.from ≤ step
  pub clock : HasClock kept e.ending
  pub now : (e.from ≡ step) ⊎ IsCallEnding e.ending

-- Commands at the front are through at this step, by no further reply; their outcomes are by these clocks.
pub record HasBegun (clocks : List NodeClock) (step : ℕ) (slots_before slots : Slots) (left_before left : List ClientCommand)
    (outcomes_before outcomes : List Outcome) (current : Option Current) : Type 0 where
  pub passed : List Ended
  pub same : (more : List Response)
      → progress_from slots_before step left_before more ≡ behind passed (coming_from current step slots left more)
  pub told : outcomes ≡ outcomes_before ++ map (outcome_by (counter_in clocks)) passed
  pub late : All (IsLate (length clocks) step) passed

-- the node on which a client waits after this reply, where its command goes on, by a read of this node if by one
abbrev pub waits_with : Response → (read : Option ℕ) → Option ℕ
waits_with (Again false) read = read
waits_with _ read = None

-- One reply is taken: whatever replies come, the new core goes on as the old one does where this reply comes first. The
-- clocks have followed it, and the outcomes of the commands that are through by it are by these clocks.
pub record HasTaken (reply : Response) (old new : Core) : Type 0 where
  pub passed : List Ended
  pub goes_on : (more : List Response) → coming old (reply ∷ more) ≡ behind passed (coming new more)
  pub told : new.outcomes ≡ old.outcomes ++ map (outcome_by (counter_in new.clocks)) passed
  pub late : All (IsLate (length new.clocks) new.step) passed
  pub followed : (xs : List Exchange) → HaveFollowed xs old.clocks
      → HaveFollowed (with_reply (next_of old) reply xs) new.clocks
  pub waits : new.waits ≡ waits_after (coming new []).standing (reply ∷ [])
  pub plays : new.plays ≡ old.plays
