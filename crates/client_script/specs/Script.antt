-- What a script says, and how a session's input falls into a script and a stream (this project's own).
use Rattle.std.specs.Prelude.{◌≡◌, ℕ, ◌+◌, ◌≤◌, ◌<◌, ◌==◌, Bool, List, [], ◌∷◌, ◌++◌, length, take, drop, max, fold, replicate, nat_eq, slice_index_or, slice_set, Option, Some, None, Result, Ok, Err, if◌then◌else◌, codes}
use Rattle.client_script.specs.Imports.{All, count_by, flat_map, is_word, option_map, range_with_len, slice_split}
use Rattle.client_script.specs.Grammar.{meaning, IsInRange}
use Rattle.client_script.specs.Writes.{IsWritten}
use Rattle.client_script.specs.declared.said.Said.{Said}
use Rattle.client_script.specs.declared.said.Said.TheVariants.{Asks, Writes}
use Rattle.client_script.specs.declared.line.Target.TheVariants.{Dvr}
use Rattle.client_script.specs.declared.line.Verb.{Verb}
use Rattle.client_script.specs.declared.line.Verb.TheVariants.{Write}
use Rattle.client_script.specs.declared.fault.FaultKind.TheVariants.{NoStream}
use Rattle.client_script.specs.declared.fault.ScriptFault.{ScriptFault}
use Rattle.client_script.specs.declared.fault.ScriptError.{ScriptError}
use Rattle.client_script.specs.declared.fault.ScriptError.TheVariants.{Fault, NoMemory}
use Rattle.client_script.specs.declared.line.Line.{Line}
use Rattle.client_script.specs.declared.line.Line.TheVariants.{Feed, Tick, Command}

-- ------ lines

-- the pieces without the last one
abbrev pub without_last : List (List ℕ) → List (List ℕ)
without_last [] = []
without_last (piece ∷ []) = []
without_last (piece ∷ next ∷ more) = piece ∷ without_last (next ∷ more)

-- The whole lines of these bytes, each without the line feed that ends it, byte 10. What stands
-- behind the last line feed is no whole line.
abbrev pub whole_lines : List ℕ → List (List ℕ)
whole_lines bytes = without_last (slice_split (λ byte. byte == 10) bytes)

-- the line that ends a script
abbrev pub is_stream : List ℕ → Bool
is_stream line = is_word line (codes "stream")

-- ------ what a script says

-- what a script says: its lines, in their order, and what each client writes
pub record Scripted : Type 0 where
  pub lines : List Line
  -- for each client the bytes of its writes, in the order of their lines
  pub writes : List (List (List ℕ))

-- no client writes; there are eight
abbrev pub no_writes : List (List (List ℕ))
no_writes = replicate 8 []

-- what one client writes
abbrev pub writes_of : (client : ℕ) → (writes : List (List (List ℕ))) → List (List ℕ)
writes_of client writes = slice_index_or writes client []

-- the bytes of one of its writes
abbrev pub written_by : (client : ℕ) → (writes : List (List (List ℕ))) → (write : ℕ) → List ℕ
written_by client writes write = slice_index_or (writes_of client writes) write []

-- the script of these lines, of which none writes
abbrev pub plain : List Line → Scripted
plain lines = record { lines = lines; writes = no_writes }

-- ------ the grammar

-- what a script says, or its first fault
abbrev pub Parsed : Type 0
Parsed = Result Scripted ScriptFault

-- A script with a write more: it is the next of its client, by which its line names it.
abbrev pub with_write : (line client : ℕ) → (bytes : List ℕ) → Scripted → Scripted
with_write line client bytes s = record {
  lines = s.lines ++ Command line client Dvr (Write (length (writes_of client s.writes))) ∷ [];
  writes = slice_set s.writes client (writes_of client s.writes ++ bytes ∷ []);
}

-- a script with what one line more says
abbrev pub with_said : Option Said → Scripted → Scripted
with_said None s = s
with_said (Some (Asks line)) s = record s { lines = s.lines ++ line ∷ [] }
with_said (Some (Writes line client bytes)) s = with_write line client bytes s

-- What whole lines mean behind this script, up to the line `stream`, where the first of them has this number; and
-- `missing` where none of them is the line `stream` and none has a fault.
unfoldable pub lines_from : (missing : ScriptFault) → (line : ℕ) → Scripted → List (List ℕ) → Parsed
lines_from missing line s [] = Err missing
lines_from missing line s (bytes ∷ more) =
    if is_stream bytes then Ok s
    else (elim (meaning line bytes) [
      | Err fault ↦ Err fault
      | Ok said ↦ lines_from missing (line + 1) (with_said said s) more
    ])

-- What a script says, or its first fault. Lines are numbered from 1. Where none is the line
-- `stream`, and none has a fault, the fault is in the line 1 plus the number of line feeds.
unfoldable pub grammar : List ℕ → Parsed
grammar bytes =
    let missing : ScriptFault = record { line = 1 + count_by (λ byte. byte == 10) bytes; kind = NoStream; word = None } in
    lines_from missing 1 (plain []) (whole_lines bytes)

-- ------ what is known of a script

-- how many bytes of an input are searched for its script
abbrev pub most_bytes : ℕ
most_bytes = 1048576

-- the writes of a client
pub record AreWritten (writes : List (List ℕ)) : Type 0 where
  pub few : length writes ≤ most_bytes
  pub each : All IsWritten writes

-- the write that a verb names, if it names one, is among so many
abbrev pub HasVerb : (count : ℕ) → Verb → Type 0
HasVerb count (Write write) = write < count
HasVerb count _ = Unit {0}

-- a write is on the dvr node
abbrev pub IsOnDvr : Line → Type 0
IsOnDvr (Command line client target (Write write)) = target ≡ Dvr
IsOnDvr _ = Unit {0}

-- the write that a line names, if it names one, is among those of its client
abbrev pub HasWrite : (writes : List (List (List ℕ))) → Line → Type 0
HasWrite writes (Command line client target verb) = HasVerb (length (writes_of client writes)) verb
HasWrite writes _ = Unit {0}

-- the write that a verb names, if it names one
abbrev pub named_by : Verb → List ℕ
named_by (Write write) = write ∷ []
named_by _ = []

-- the write that a line of this client names, if it names one
abbrev pub named_in : (client : ℕ) → Line → List ℕ
named_in client (Command line who target verb) = if nat_eq who client then named_by verb else []
named_in client _ = []

-- the writes that the lines of a client name, in the order of the lines
abbrev pub named_among : (client : ℕ) → List Line → List ℕ
named_among client lines = flat_map (named_in client) lines

-- the lines of each client name its writes in their order, each once
abbrev pub AreNumbered : Scripted → Type 0
AreNumbered script = (client : ℕ) → named_among client script.lines
    ≡ range_with_len 0 (length (writes_of client script.writes))

-- no more lines and writes than bytes are searched, each in the ranges of the grammar
pub record IsScript (script : Scripted) : Type 0 where
  pub few : length script.lines ≤ most_bytes
  pub ranges : All IsInRange script.lines
  pub clients : length script.writes ≡ 8
  pub writes : All AreWritten script.writes
  pub on_dvr : All IsOnDvr script.lines
  pub named : All (HasWrite script.writes) script.lines
  pub numbered : AreNumbered script

-- how many clients there are up to the one that a line names, if it names one
abbrev pub clients_of : Line → ℕ
clients_of (Feed n) = 0
clients_of (Tick n) = 0
clients_of (Command line client target verb) = client + 1

-- how many clients there are up to the highest that these lines name, if they name one
abbrev pub clients_among : List Line → ℕ
clients_among lines = fold (λ most line. max most (clients_of line)) 0 lines

-- how many clients a script has: 1 plus the highest that it names, or 0
abbrev pub clients_in : Scripted → ℕ
clients_in script = clients_among script.lines

-- a script was read as the grammar says, unless memory was refused
abbrev pub IsRead : Result Scripted ScriptError → Parsed → Type 0
IsRead (Ok script) parsed = parsed ≡ Ok script
IsRead (Err (Fault fault)) parsed = parsed ≡ Err fault
IsRead (Err NoMemory) parsed = Unit {0}

-- ------ the input of a session

-- a script part, and the stream behind its line `stream`, if it has that line
pub record Parts : Type 0 where
  pub script : List ℕ
  pub stream : Option (List ℕ)

-- how many bytes there are up to and with the first line `stream` of these whole lines
abbrev pub script_len : List (List ℕ) → Option ℕ
script_len [] = None
script_len (line ∷ lines) =
    if is_stream line then Some (length line + 1) else option_map (λ n. length line + 1 + n) (script_len lines)

-- an input whose script has so many bytes; without a line `stream` all that was searched is the script part
abbrev pub parted : List ℕ → Option ℕ → Parts
parted input (Some n) = record { script = take n input; stream = Some (drop n input) }
parted input None = record { script = take most_bytes input; stream = None }

-- A session's input: its script part, up to and with the first whole line `stream` among the bytes that are
-- searched, and the stream behind that.
unfoldable pub split : List ℕ → Parts
split input = parted input (script_len (whole_lines (take most_bytes input)))
