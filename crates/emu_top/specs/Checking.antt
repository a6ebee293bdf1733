-- What `check` is asked, and what it answers (this project's own).
use Rattle.std.specs.Prelude.{◌≡◌, ◌⊎◌, ⊤, ℕ, ◌+◌, ◌<◌, ◌≤◌, Bool, true, false, List, [], ◌∷◌, length, take, drop, nat_le, Option, Some, None, Result, Ok, Err, IfSome, if◌then◌else◌, codes}
use Rattle.emu_top.specs.Imports.{Consumes, FaultKind, IsReportOfRun, NoStream, Number, PacketSize, Parsed, ScriptFault, Scripted, SourceEnd, cut, grammar, head_of, is_word, number_between, split, whole_lines}
use Rattle.emu_top.specs.Session.{IsSession, ReadsTo}
use Rattle.emu_top.specs.declared.status.Status.{Status}
use Rattle.emu_top.specs.declared.status.Status.TheVariants.{Script, TooLong, ReadFault, NoMemory, Ok as Done, Wrong}

-- ------ what is asked

-- how many bytes a report has, by the first line of an input, `report N`
unfoldable pub size_of : (line : List ℕ) → Option ℕ
size_of line = if is_word (take 7 line) (codes "report ") then number_between 0 4294967295 (drop 7 line) else None

-- a report, and behind it the session that it may be of
pub record Asked : Type 0 where
  pub report : List ℕ
  pub session : List ℕ

-- what is wrong in front of the session, which is in none of its lines
abbrev pub in_front : FaultKind → ScriptFault
in_front kind = record { line = 0; kind = kind; word = None }

-- a report of so many bytes at the front of these, and the session behind it
abbrev pub asked_in : (bytes : List ℕ) → (size : Option ℕ) → Result Asked ScriptFault
asked_in bytes None = Err (in_front Number)
asked_in bytes (Some size) =
    if nat_le size (length bytes) then Ok (record { report = take size bytes; session = drop size bytes })
    else Err (in_front NoStream)

-- the same behind the first of these lines of an input
abbrev pub asked_behind : (input : List ℕ) → (lines : List (List ℕ)) → Result Asked ScriptFault
asked_behind input [] = Err (in_front Number)
asked_behind input (line ∷ lines) = asked_in (drop (length line + 1) input) (size_of line)

-- What an input asks. Its first line, which is whole among the first 40 bytes, says how many bytes the report has; they stand
-- behind that line, and the session behind them.
unfoldable pub asked : (input : List ℕ) → Result Asked ScriptFault
asked input = asked_behind input (whole_lines (take 40 input))

-- what the session's script says; or the first fault of the input, in front of the session or in its script
abbrev pub script_asked : Result Asked ScriptFault → Parsed
script_asked (Err fault) = Err fault
script_asked (Ok asked) = grammar (split asked.session).script

-- these bytes are a report behind its first line, and behind it a session that has a whole script without a fault, which says
-- this, and this stream
pub record Asks (bytes report : List ℕ) (script : Scripted) (stream : List ℕ) : Type 0 where
  pub session : List ℕ
  pub parts : asked bytes ≡ Ok (record { report = report; session = session })
  pub whole : IsSession session script stream

-- ------ what is answered

-- whether the report is that of a run of the script over the packets of the stream, all of which was read
abbrev pub IsAnswer : (right : Bool) → PacketSize → (report : List ℕ) → (script : Scripted)
    → (stream : List ℕ) → Type 0
IsAnswer true size report script stream = IsReportOfRun script (cut size stream).packets (head_of size stream false) report
IsAnswer false size report script stream = IsReportOfRun script (cut size stream).packets (head_of size stream false) report
    → ⊥

-- the answer, as it is written
unfoldable pub answer_text : (right : Bool) → List ℕ
answer_text true = codes "yes\n"
answer_text false = codes "no\n"

-- ------ sources

-- In what follows `before` and `after` are what a source tells before and after.

-- all that was left was taken, and this is the answer to what it asks
pub record Judges (right : Bool) (size : PacketSize) (before after : SourceEnd) : Type 0 where
  pub bytes : List ℕ
  pub report : List ℕ
  pub script : Scripted
  pub stream : List ℕ
  pub taken : Consumes before.left after.left bytes
  pub reads : ReadsTo false before after
  pub asks : Asks bytes report script stream
  pub answer : IsAnswer right size report script stream

-- the input has this first fault
abbrev pub HasFirstFault : ScriptFault → (before after : SourceEnd) → Type 0
HasFirstFault fault before after =
    (after.faults ≡ before.faults) × IfSome before.left (λ input. script_asked (asked input) ≡ Err fault)

-- so many reads were made, each of which took a byte, and the stream went on
pub record ReadsTooOften (before after : SourceEnd) (turns : ℕ) : Type 0 where
  pub bytes : List ℕ
  pub report : List ℕ
  pub script : Scripted
  pub stream : List ℕ
  pub taken : Consumes before.left after.left bytes
  pub asks : Asks bytes report script stream
  pub most : turns ≡ 4294967296
  pub reads : turns ≤ length bytes

-- the first line isn't whole in these bytes, and may be in more
abbrev pub EndsInLine : List ℕ → Type 0
EndsInLine bytes = (length bytes < 40) × (whole_lines bytes ≡ [])

-- the first line is whole in these bytes, and the report isn't
abbrev pub EndsInReport : List ℕ → Type 0
EndsInReport bytes = asked bytes ≡ Err (in_front NoStream)

-- the report is whole in these bytes, and either the script behind it isn't, or it has no fault
pub record EndsInSession (bytes : List ℕ) : Type 0 where
  pub report : List ℕ
  pub session : List ℕ
  pub parts : asked bytes ≡ Ok (record { report = report; session = session })
  pub script : ((split session).stream ≡ None) ⊎ ((says : Scripted) × ((stream : List ℕ) × IsSession session says stream))

-- a read failed, where nothing had been found that settles the answer
pub record FailsToRead (before after : SourceEnd) : Type 0 where
  pub bytes : List ℕ
  pub taken : Consumes before.left after.left bytes
  pub ends : EndsInLine bytes ⊎ (EndsInReport bytes ⊎ EndsInSession bytes)
  pub rose : before.faults < after.faults

-- why there is no answer
abbrev pub Declines : (before after : SourceEnd) → Status → Type 0
Declines before after (Script fault) = HasFirstFault fault before after
Declines before after (TooLong turns) = ReadsTooOften before after turns
Declines before after ReadFault = FailsToRead before after
Declines before after NoMemory = ⊤
Declines before after _ = ⊥

-- ------ what the input determines

-- a status that tells an answer
abbrev pub TellsAnswer : Status → Type 0
TellsAnswer Done = ⊤
TellsAnswer (Wrong fault) = ⊤
TellsAnswer _ = ⊥

-- The status that an input determines where no read and no write fails: its first fault, or for less than 4,294,967,296
-- bytes an answer.
abbrev pub SettlesAnswer : Parsed → (input : List ℕ) → Status → Type 0
SettlesAnswer (Err fault) input status = status ≡ Script fault
SettlesAnswer (Ok script) input status = length input < 4294967296 → TellsAnswer status
