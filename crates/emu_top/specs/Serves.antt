-- What a call of the program does: by its words, by what source and sink tell before and after, and by its status.
use Rattle.std.specs.Prelude.{◌≡◌, ◌⊎◌, ℕ, ◌+◌, ◌<◌, ◌≤◌, Bool, true, false, List, length, take, Some, None, Ok, Err, IfSome}
use Rattle.emu_top.specs.Imports.{Appends, Check, Command, Keeps, Make, PacketSize, Parsed, Run, SelfTest, SinkEnd, SourceEnd, Steps, grammar, made, meant, split}
use Rattle.emu_top.specs.Session.{Output, IsSerialOutput, IsThreadOutput, IsSums, Makes, GivesUp, HasFault, FailsEarly}
use Rattle.emu_top.specs.Checking.{Declines, Judges, SettlesAnswer, answer_text, asked, script_asked}
use Rattle.emu_top.specs.declared.status.Status.{Status}
use Rattle.emu_top.specs.declared.status.Status.TheVariants.{Usage, Script, TooLong, ReadFault, WriteFault, NoMemory, Ok as Done, Wrong}

-- What a source and a sink tell at one moment.
pub record Outside : Type 0 where
  pub source : SourceEnd
  pub sink : SinkEnd

abbrev pub outside : SourceEnd → SinkEnd → Outside
outside source sink = record { source = source; sink = sink }

-- ------ what is read and written

abbrev pub NoReadFails : Outside → Outside → Type 0
NoReadFails before after = after.source.faults ≡ before.source.faults

abbrev pub NoWriteFails : Outside → Outside → Type 0
NoWriteFails before after = after.sink.faults ≡ before.sink.faults

-- these bytes came behind those that were written
abbrev pub Writes : Outside → Outside → List ℕ → Type 0
Writes before after text = Appends before.sink.written after.sink.written text

abbrev pub WritesNothing : Outside → Outside → Type 0
WritesNothing before after = Keeps before.sink.written after.sink.written × NoWriteFails before after

abbrev pub ReadsNothing : Outside → Outside → Type 0
ReadsNothing before after = Keeps before.source.left after.source.left × NoReadFails before after

-- the whole text was written
pub record WritesWhole (before after : Outside) (text : List ℕ) : Type 0 where
  pub written : Writes before after text
  pub writes : NoWriteFails before after

-- A write failed. A part of the text was written, from its front on.
pub record WritesFront (before after : Outside) (text : List ℕ) : Type 0 where
  pub count : ℕ
  pub part : count < length text
  pub written : Writes before after (take count text)
  pub rose : before.sink.faults < after.sink.faults

-- What was written of a session's output, by a status: the whole of it, or a part from its front on where a
-- write failed. `failed`: reading failed.
abbrev pub HasWritten : (failed : Bool) → (text : List ℕ) → (before after : SinkEnd) → Status → Type 0
HasWritten failed text before after WriteFault = (count : ℕ) × (count < length text)
    × Appends before.written after.written (take count text) × (before.faults < after.faults)
HasWritten failed text before after ReadFault =
    (failed ≡ true) × Appends before.written after.written text × (after.faults ≡ before.faults)
HasWritten failed text before after Done =
    (failed ≡ false) × Appends before.written after.written text × (after.faults ≡ before.faults)
HasWritten failed text before after _ = ⊥

-- ------ `steps` and `run`: what each status says

-- the bytes that were taken have this output
abbrev pub MakesOutput : Output → Outside → Outside → (failed : Bool) → (text : List ℕ) → Type 0
MakesOutput output before after failed text = Makes output before.source after.source failed text

-- The input was read to its end, and the whole output for it was written.
pub record IsDone (output : Output) (before after : Outside) : Type 0 where
  pub text : List ℕ
  pub made : MakesOutput output before after false text
  pub whole : WritesWhole before after text

-- A read failed. Where a whole script was read before, the report over the bytes that
-- were taken was written; else nothing.
abbrev pub HasReadFault : Output → (before after : Outside) → Type 0
HasReadFault output before after = NoWriteFails before after
    × (((text : List ℕ) × MakesOutput output before after true text × Writes before after text)
    ⊎ (FailsEarly before.source after.source × Keeps before.sink.written after.sink.written))

-- A write failed. A part of the output was written, from its front on.
pub record HasWriteFault (output : Output) (before after : Outside) : Type 0 where
  pub text : List ℕ
  pub failed : Bool
  pub made : MakesOutput output before after failed text
  pub front : WritesFront before after text

-- what a status says of a session that has this output
abbrev pub Says : Output → Outside → Outside → Status → Type 0
Says output before after Usage = ⊥
Says output before after (Script fault) =
    HasFault fault before.source after.source × WritesNothing before after
Says output before after (TooLong turns) = GivesUp before.source after.source turns × WritesNothing before after
Says output before after ReadFault = HasReadFault output before after
Says output before after WriteFault = HasWriteFault output before after
Says output before after NoMemory = WritesNothing before after
Says output before after Done = IsDone output before after
Says output before after (Wrong fault) = ⊥

-- The answer that an input determines where no read and no write fails: its script's fault, or for less than
-- 4,294,967,296 bytes that all is well.
abbrev pub Determines : Parsed → (input : List ℕ) → Status → Type 0
Determines (Err fault) input status = status ≡ Script fault
Determines (Ok script) input status = length input < 4294967296 → status ≡ Done

-- What the program does with a session that has this output: the status says what was read and written. Where no read
-- and no write fails, it is the one that the input determines, or memory was refused.
pub record Does (output : Output) (before after : Outside) (status : Status) : Type 0 where
  pub says : Says output before after status
  pub settled : NoReadFails before after → NoWriteFails before after
      → IfSome before.source.left (λ input. (status ≡ NoMemory) ⊎ Determines (grammar (split input).script) input status)

-- ------ `make` and `selftest`: a text that is made from a number

-- what a status says where such a text is to be written
abbrev pub Tells : (IsText : List ℕ → Type 0) → Outside → Outside → Status → Type 0
Tells IsText before after WriteFault = (text : List ℕ) × IsText text × WritesFront before after text
Tells IsText before after NoMemory = WritesNothing before after
Tells IsText before after Done = (text : List ℕ) × IsText text × WritesWhole before after text
Tells IsText before after _ = ⊥

-- Nothing is read, and the status says what was written. Where no write fails the whole text was written, or memory was
-- refused.
pub record Gives (IsText : List ℕ → Type 0) (before after : Outside) (status : Status) : Type 0 where
  pub reads : ReadsNothing before after
  pub says : Tells IsText before after status
  pub settled : NoWriteFails before after → (status ≡ NoMemory) ⊎ (status ≡ Done)

-- ------ `check`: an answer

-- In what follows a packet of the stream takes up `size`.

-- the answer was written whole
pub record IsAnswered (right : Bool) (size : PacketSize) (before after : Outside) : Type 0 where
  pub judged : Judges right size before.source after.source
  pub whole : WritesWhole before after (answer_text right)

-- A write failed. A part of the answer was written, from its front on.
pub record HasAnswerFault (size : PacketSize) (before after : Outside) : Type 0 where
  pub right : Bool
  pub judged : Judges right size before.source after.source
  pub front : WritesFront before after (answer_text right)

-- What a status says of a report and a session. The report is that of a run of the session at `Ok`, and isn't at `Wrong`, where
-- nothing is said of the fault's line and kind.
abbrev pub Answers : PacketSize → Outside → Outside → Status → Type 0
Answers size before after Done = IsAnswered true size before after
Answers size before after (Wrong fault) = IsAnswered false size before after
Answers size before after WriteFault = HasAnswerFault size before after
Answers size before after status = Declines before.source after.source status × WritesNothing before after

-- What the program does with a report and a session: the status says what was read and written. Where no read and no write
-- fails, it is one that the input determines, or memory was refused.
pub record Checks (size : PacketSize) (before after : Outside) (status : Status) : Type 0 where
  pub says : Answers size before after status
  pub settled : NoReadFails before after → NoWriteFails before after
      → IfSome before.source.left (λ input. (status ≡ NoMemory) ⊎ SettlesAnswer (script_asked (asked input)) input status)

-- ------ the whole

-- What the program does by a command, where the clock may give these numbers. `steps` and `run` read a session and
-- write the report of its run, on one thread or by threads. `make` writes the session of its number, and `selftest` the
-- line of sums over the serial run of that session; both read nothing. `check` reads a report and a session, and writes
-- whether the report is that of a run of the session.
abbrev pub Obeys : Command → (may : ℕ → Bool) → Outside → Outside → Status → Type 0
Obeys (Steps batch packet) may before after status = Does (IsSerialOutput batch packet) before after status
Obeys (Run batch packet) may before after status = Does (IsThreadOutput batch packet may) before after status
Obeys (Make number) may before after status = Gives (λ text. text ≡ made number) before after status
Obeys (SelfTest number batch) may before after status = Gives (IsSums number batch) before after status
Obeys (Check packet) may before after status = Checks packet before after status

-- what the program does by the words of its command line
pub record Serves (words : List (List ℕ)) (may : ℕ → Bool) (before after : Outside) (status : Status) : Type 0 where
  -- words that aren't accepted are answered `Usage`, or want of memory, and nothing is then read or written
  pub usage : status ≡ Usage → meant words ≡ None
  pub refused : meant words ≡ None → ((status ≡ Usage) ⊎ (status ≡ NoMemory)) × ReadsNothing before after
      × WritesNothing before after
  -- others are obeyed
  pub obeys : (command : Command) → meant words ≡ Some command → Obeys command may before after status
  -- Whatever the words and the status, at most one read fails and at most one write: after a failed read nothing more
  -- is read, and after a failed write nothing more is written.
  pub reads_once : after.source.faults ≤ before.source.faults + 1
  pub writes_once : after.sink.faults ≤ before.sink.faults + 1
