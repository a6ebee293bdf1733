-- What a request is answered by: which commands are done for it, by which calls, and what is told.
use Rattle.std.specs.Prelude.{◌≡◌, ◌≢◌, ◌+◌, ◌⊎◌, ℕ, suc, zero, Bool, true, false, if◌then◌else◌, List, [], ◌∷◌, ◌++◌, Option, Some, None}
use Rattle.seats.specs.Imports.{Busy, Close, DEMUX_NODES, Ending, LogEntry, Open, Response, Slot, Target, Want}
use Rattle.seats.specs.declared.serve_frames.ask.Ask.{Ask}
use Rattle.seats.specs.declared.serve_frames.ask.Ask.TheVariants.{OpenDemux, Call, Leave, Refused}
use Rattle.seats.specs.declared.serve_frames.numbers.TheConstants.{NO_PLACE, EMFILE, ENOMEM}
use Rattle.seats.specs.declared.serve_frames.tell.Tell.{Tell}
use Rattle.seats.specs.Spelled.{DoneCommand, IsDone, done_command, target_of}
use Rattle.seats.specs.Tells.{tell, told_of, data_of}

-- ------ what is told

-- this code, and that no call is told
abbrev pub refusal : (code : ℕ) → Tell
refusal code = tell code 0 NO_PLACE

abbrev pub IsRefusal : (code : ℕ) → Tell → (bytes : List ℕ) → Type 0
IsRefusal code t bytes = (t ≡ refusal code) × (bytes ≡ [])

-- the reply to the first of these calls, and the bytes that it has read
abbrev pub IsFirstTold : List LogEntry → Tell → (bytes : List ℕ) → Type 0
IsFirstTold [] t bytes = ⊥
IsFirstTold (e ∷ es) t bytes = (t ≡ told_of e.response e.place) × (bytes ≡ data_of e.response)

abbrev pub is_busy : Response → Bool
is_busy (Busy owner) = true
is_busy _ = false

-- the first of these calls whose node wasn't busy
abbrev pub first_free : List LogEntry → Option LogEntry
first_free [] = None
first_free (e ∷ es) = if is_busy e.response then first_free es else Some e

-- what is told where this call has opened a node
abbrev pub told_opened : (node : ℕ) → Response → (place : ℕ) → Tell
told_opened node r place = tell (told_of r place).code node place

-- the reply to this call with its node; or, where there is none, that all nodes are busy
abbrev pub IsOpenTold : Option LogEntry → Tell → (bytes : List ℕ) → Type 0
IsOpenTold None t bytes = IsRefusal EMFILE t bytes
IsOpenTold (Some e) t bytes = (t ≡ told_opened e.node e.response e.place) × (bytes ≡ data_of e.response)

-- ------ which commands

-- one command was done at this moment, on this, which asks this, and of its calls this holds
abbrev pub IsOneCommand : (now : ℕ) → Target → Want → (told : List LogEntry → Type 0) → List DoneCommand → Type 0
IsOneCommand now target want told ds =
    (calls : List LogEntry) × (ending : Ending) × (ds ≡ done_command target want calls ending ∷ [])
    × IsDone now (done_command target want calls ending) × told calls

-- a node is closed, or nothing is done
abbrev pub IsClosing : (node : ℕ) → List DoneCommand → Type 0
IsClosing node ds = (ds ≡ []) ⊎ ((now : ℕ) → IsOneCommand now (target_of node) Close (λ calls. Unit {0}) ds)

-- each of the first nodes is closed, or nothing is done there
abbrev pub AreClosings : (nodes : ℕ) → List DoneCommand → Type 0
AreClosings zero ds = ds ≡ []
AreClosings (suc n) ds =
    (before : List DoneCommand) × (mine : List DoneCommand) × (ds ≡ before ++ mine) × AreClosings n before
    × IsClosing n mine

-- ------ requests

-- What is asked at this moment is answered by these commands, and this is told: to open a demux node is the `open` of a slot,
-- which tries one after another; any other call is that one command on its node; and to leave is a `close` of each node.
abbrev pub IsAnsweredBy : Ask → (now : ℕ) → List DoneCommand → Tell → (bytes : List ℕ) → Type 0
IsAnsweredBy OpenDemux now ds t bytes = IsOneCommand now (Slot 0) Open (λ calls. IsOpenTold (first_free calls) t bytes) ds
IsAnsweredBy (Call node want) now ds t bytes = IsOneCommand now (target_of node) want (λ calls. IsFirstTold calls t bytes) ds
IsAnsweredBy Leave now ds t bytes = AreClosings (DEMUX_NODES + 1) ds × IsRefusal 0 t bytes
IsAnsweredBy (Refused code) now ds t bytes = (ds ≡ []) × IsRefusal code t bytes

-- It is so; or, unless it is to leave, memory was refused, or too few calls were left, and nothing was done.
abbrev pub IsAnswered : Ask → (now : ℕ) → List DoneCommand → Tell → (bytes : List ℕ) → Type 0
IsAnswered ask now ds t bytes = IsAnsweredBy ask now ds t bytes ⊎ ((ask ≢ Leave) × (ds ≡ []) × IsRefusal ENOMEM t bytes)
