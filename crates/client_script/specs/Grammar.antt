-- What the lines of a script ask for, word by word (this project's own).
use Rattle.std.specs.Prelude.{ℕ, ◌+◌, ◌-◌, ◌≤◌, ◌==◌, Bool, true, List, [], ◌∷◌, length, Option, Some, None, Result, Ok, Err, if◌then◌else◌, codes}
use Rattle.client_script.specs.Imports.{IsFilter, LARGEST_READ, client_named, demux_named, input_named, is_word, number_between, option_map, option_or, output_named, slot_named}
use Rattle.client_script.specs.Words.{Reading, and_then, mapped, or_fault, next_as, word_in, words_of}
use Rattle.client_script.specs.Places.{filter_in}
use Rattle.client_script.specs.Requests.{ioctl_in}
use Rattle.client_script.specs.declared.fault.FaultKind.{FaultKind}
use Rattle.client_script.specs.declared.fault.FaultKind.TheVariants.{Client, Command as NoCommand, Target as NoTarget, Number, Name, Bytes, Count}
use Rattle.client_script.specs.declared.fault.ScriptFault.{ScriptFault}
use Rattle.client_script.specs.declared.wanted.WordFault.{WordFault}
use Rattle.client_script.specs.declared.wanted.NumberName.{NumberName}
use Rattle.client_script.specs.declared.wanted.NumberName.TheVariants.{Pid, Timeout, Flags, PesType, N}
use Rattle.client_script.specs.declared.wanted.WantedWord.TheVariants as wanted
use Rattle.client_script.specs.declared.names.CommandName.{CommandName}
use Rattle.client_script.specs.declared.names.CommandName.TheVariants.{Open as OpenName, Close as CloseName, Section as SectionName, Pes as PesName, Add as AddName, Remove as RemoveName, Start as StartName, Stop as StopName, Size as SizeName, Read as ReadName, ReadWait as ReadWaitName, Drain as DrainName, Poll as PollName, Ioctl as IoctlName}
use Rattle.client_script.specs.Writes.{written_named, IsWritten}
use Rattle.client_script.specs.declared.said.Said.{Said}
use Rattle.client_script.specs.declared.said.Said.TheVariants.{Asks, Writes}
use Rattle.client_script.specs.declared.line.Verb.{Verb}
use Rattle.client_script.specs.declared.line.Verb.TheVariants.{Once, ReadWait, Drain, GetStc, Write}
use Rattle.client_script.specs.declared.line.Want.{Want}
use Rattle.client_script.specs.declared.line.Want.TheVariants.{Open, Close, Section, Pes, Add, Remove, Start, Stop, Size, Read, Poll}
use Rattle.client_script.specs.declared.line.Target.{Target}
use Rattle.client_script.specs.declared.line.Target.TheVariants.{Node, Slot, Dvr}
use Rattle.client_script.specs.declared.line.Line.{Line}
use Rattle.client_script.specs.declared.line.Line.TheVariants.{Feed, Tick, Command}

-- ------ one word

-- a number of this name in a range
unfoldable pub number_in : NumberName → (least most : ℕ) → List (List ℕ) → Reading ℕ
number_in name least most words = next_as Number (wanted.Number name least most) (number_between least most) words

-- PID: a number of 16 bits
abbrev pub pid_in : List (List ℕ) → Reading ℕ
pid_in words = number_in Pid 0 65535 words

-- TIMEOUT, TYPE, FLAGS and most N: a number of 32 bits
abbrev pub count_in : NumberName → List (List ℕ) → Reading ℕ
count_in name words = number_in name 0 4294967295 words

-- the node of a word `n0` to `n31`, or else the slot of a word `h0` to `h31`
unfoldable pub numbered_target : List ℕ → Option Target
numbered_target word = option_or (option_map Node (demux_named word)) (option_map Slot (slot_named word))

-- a target: one of these, or `dvr`
unfoldable pub target_of : List ℕ → Option Target
target_of word = if is_word word (codes "dvr") then Some Dvr else numbered_target word

-- the command of this name
unfoldable pub name_of : List ℕ → Option CommandName
name_of word =
    if is_word word (codes "open") then Some OpenName
    else (if is_word word (codes "close") then Some CloseName
    else (if is_word word (codes "section") then Some SectionName
    else (if is_word word (codes "pes") then Some PesName
    else (if is_word word (codes "add") then Some AddName
    else (if is_word word (codes "remove") then Some RemoveName
    else (if is_word word (codes "start") then Some StartName
    else (if is_word word (codes "stop") then Some StopName
    else (if is_word word (codes "size") then Some SizeName
    else (if is_word word (codes "read") then Some ReadName
    else (if is_word word (codes "readw") then Some ReadWaitName
    else (if is_word word (codes "drain") then Some DrainName
    else (if is_word word (codes "poll") then Some PollName
    else (if is_word word (codes "ioctl") then Some IoctlName else None)))))))))))))

-- ------ what stands behind a command's target

-- `PID TIMEOUT FLAGS BYTE*`
unfoldable pub section_in : List (List ℕ) → Reading Want
section_in words =
    and_then (pid_in words) (λ pid words.
    and_then (count_in Timeout words) (λ timeout words.
    and_then (count_in Flags words) (λ flags words.
    and_then (filter_in words) (λ filter words.
    Ok (Section (record { pid = pid; filter = filter; timeout = timeout; flags = flags }), words)))))

-- `PID INPUT OUTPUT TYPE FLAGS`
unfoldable pub pes_in : List (List ℕ) → Reading Want
pes_in words =
    and_then (pid_in words) (λ pid words.
    and_then (next_as Name wanted.Input input_named words) (λ input words.
    and_then (next_as Name wanted.Output output_named words) (λ output words.
    and_then (count_in PesType words) (λ pes_type words.
    and_then (count_in Flags words) (λ flags words.
    Ok (Pes (record { pid = pid; input = input; output = output; pes_type = pes_type; flags = flags }), words))))))

-- what each command wants behind its target
unfoldable pub verb_in : CommandName → List (List ℕ) → Reading Verb
verb_in OpenName words = Ok (Once Open, words)
verb_in CloseName words = Ok (Once Close, words)
verb_in SectionName words = mapped Once (section_in words)
verb_in PesName words = mapped Once (pes_in words)
verb_in AddName words = mapped (λ pid. Once (Add pid)) (pid_in words)
verb_in RemoveName words = mapped (λ pid. Once (Remove pid)) (pid_in words)
verb_in StartName words = Ok (Once Start, words)
verb_in StopName words = Ok (Once Stop, words)
verb_in SizeName words = mapped (λ n. Once (Size n)) (count_in N words)
verb_in ReadName words = mapped (λ n. Once (Read n)) (number_in N 0 LARGEST_READ words)
verb_in ReadWaitName words = mapped ReadWait (number_in N 0 LARGEST_READ words)
verb_in DrainName words = mapped Drain (number_in N 0 LARGEST_READ words)
verb_in PollName words = Ok (Once Poll, words)
verb_in IoctlName words = ioctl_in words

-- ------ lines

-- what stands behind the word of any command but `write`: its target, and what it wants
unfoldable pub command_in : (line client : ℕ) → (name : Option CommandName) → List (List ℕ) → Reading Line
command_in line client name words =
    and_then (or_fault NoCommand wanted.Command name words) (λ name words.
    and_then (next_as NoTarget wanted.Target target_of words) (λ target words.
    and_then (verb_in name words) (λ verb words.
    Ok (Command line client target verb, words))))

-- the only target of a write
unfoldable pub dvr_named : List ℕ → Option Target
dvr_named word = if is_word word (codes "dvr") then Some Dvr else None

-- `dvr HEX`
unfoldable pub write_in : (line client : ℕ) → List (List ℕ) → Reading Said
write_in line client words =
    and_then (next_as NoTarget wanted.Dvr dvr_named words) (λ target words.
    mapped (Writes line client) (next_as Bytes wanted.Written written_named words))

-- what stands behind the client
unfoldable pub asked_in : (line client : ℕ) → List (List ℕ) → Reading Said
asked_in line client words =
    and_then (word_in wanted.Command words) (λ word words.
    if is_word word (codes "write") then write_in line client words
    else mapped Asks (command_in line client (name_of word) words))

-- `feed N`, `tick N`, or a client's command
unfoldable pub line_in : (line : ℕ) → List (List ℕ) → Reading Said
line_in line words =
    and_then (word_in wanted.First words) (λ first words.
    if is_word first (codes "feed") then mapped (λ n. Asks (Feed n)) (number_in N 1 4294967295 words)
    else (if is_word first (codes "tick") then mapped (λ n. Asks (Tick n)) (count_in N words)
    else and_then (or_fault Client wanted.First (client_named first) words) (λ client words. asked_in line client words)))

-- a value behind which no word is left; a word too many is a fault of the count
abbrev pub alone : {A : Type 0} → A → List (List ℕ) → Reading A
alone value words = if length words == 0 then Ok (value, words) else Err (record { kind = Count; wanted = wanted.End }, words)

-- The number in its line, from 1 on, of the word at a fault of this kind up to which so many words were read: that of the last
-- one; or where a word is missing or too many, that of the place behind them.
abbrev pub number_at : FaultKind → (read : ℕ) → ℕ
number_at Count read = read + 1
number_at _ read = read

-- a fault in the line of this number, of which so many words were read
abbrev pub fault_in : (line read : ℕ) → WordFault → ScriptFault
fault_in line read fault =
    record { line = line; kind = fault.kind; word = Some (record { number = number_at fault.kind read; wanted = fault.wanted }) }

-- what so many words say, which are all of the line of this number
abbrev pub in_line : {A : Type 0} → (line count : ℕ) → Reading A → Result A ScriptFault
in_line line count (Ok read) = Ok read.0
in_line line count (Err fault) = Err (fault_in line (count - length fault.1) fault.0)

-- what the words at the front say, where no word is left behind them
abbrev pub whole_in : (line : ℕ) → List (List ℕ) → Reading Said
whole_in line words = and_then (line_in line words) alone

-- what a whole line says
unfoldable pub line_of : (line : ℕ) → List ℕ → Result Said ScriptFault
line_of line bytes = in_line line (length (words_of bytes)) (whole_in line (words_of bytes))

-- a line that is passed over: it is empty or a comment, whose first byte is `#`
abbrev pub is_passed_over : List ℕ → Bool
is_passed_over [] = true
is_passed_over (byte ∷ bytes) = byte == 35

-- what a line says, if anything
abbrev pub some_said : Result Said ScriptFault → Result (Option Said) ScriptFault
some_said (Ok said) = Ok (Some said)
some_said (Err fault) = Err fault

-- What the line of this number means: nothing, what it says, or its fault.
unfoldable pub meaning : (line : ℕ) → List ℕ → Result (Option Said) ScriptFault
meaning line bytes = if is_passed_over bytes then Ok None else some_said (line_of line bytes)

-- ------ ranges

-- the ranges of a call's numbers; a filter has sixteen bytes of each kind
abbrev pub IsWantInRange : Want → Type 0
IsWantInRange (Section p) = (p.pid ≤ 65535) × (p.timeout ≤ 4294967295) × (p.flags ≤ 4294967295) × IsFilter p.filter
IsWantInRange (Pes p) = (p.pid ≤ 65535) × (p.pes_type ≤ 4294967295) × (p.flags ≤ 4294967295)
IsWantInRange (Add pid) = pid ≤ 65535
IsWantInRange (Remove pid) = pid ≤ 65535
IsWantInRange (Size n) = n ≤ 4294967295
IsWantInRange (Read n) = n ≤ LARGEST_READ
IsWantInRange _ = Unit {0}

-- the ranges of a verb's numbers
abbrev pub IsVerbInRange : Verb → Type 0
IsVerbInRange (Once want) = IsWantInRange want
IsVerbInRange (ReadWait n) = n ≤ LARGEST_READ
IsVerbInRange (Drain n) = n ≤ LARGEST_READ
IsVerbInRange (GetStc num) = num ≤ 4294967295
IsVerbInRange (Write write) = write ≤ 4294967295

-- a verb of another line than `write`
abbrev pub IsPlainVerb : Verb → Type 0
IsPlainVerb (Write write) = ⊥
IsPlainVerb _ = Unit {0}

-- another line than `write`
abbrev pub IsPlain : Line → Type 0
IsPlain (Command line client target verb) = IsPlainVerb verb
IsPlain _ = Unit {0}

-- there are 32 nodes and 32 slots
abbrev pub IsTargetInRange : Target → Type 0
IsTargetInRange (Node n) = n ≤ 31
IsTargetInRange (Slot n) = n ≤ 31
IsTargetInRange Dvr = Unit {0}

-- The ranges of a line: there are 8 clients, and 1,048,576 bytes have no more lines.
abbrev pub IsInRange : Line → Type 0
IsInRange (Feed n) = (1 ≤ n) × (n ≤ 4294967295)
IsInRange (Tick n) = n ≤ 4294967295
IsInRange (Command line client target verb) =
    (1 ≤ line) × (line ≤ 1048576) × (client ≤ 7) × IsTargetInRange target × IsVerbInRange verb

-- The ranges of what a line says.
abbrev pub IsSaidInRange : Said → Type 0
IsSaidInRange (Asks line) = IsInRange line × IsPlain line
IsSaidInRange (Writes line client bytes) = (1 ≤ line) × (line ≤ 1048576) × (client ≤ 7) × IsWritten bytes
