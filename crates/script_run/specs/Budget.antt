-- How many calls a client makes in a run (this project's own).
use Rattle.std.specs.Prelude.{ℕ, ◌≡◌, ◌⊎◌, ◌≤◌, ◌+◌, ◌*◌, ◌-◌, ◌^◌, List, [], ◌∷◌, length, map, sum}
use Rattle.script_run.specs.Imports.{Command, Data, Line, MOST_CALLS, Overflow, Response, Scripted}

-- how many commands these lines are
abbrev pub all_commands : List Line → ℕ
all_commands [] = 0
all_commands (Command line client target verb ∷ lines) = 1 + all_commands lines
all_commands (_ ∷ lines) = all_commands lines

-- how many bytes all clients write
abbrev pub bytes_written : Scripted → ℕ
bytes_written script = sum (map (λ writes. sum (map (λ bytes. length bytes) writes)) script.writes)

-- The most calls of a client: for so many commands of all clients, and so many bytes of the stream and of all writes.
abbrev pub most_calls : (commands bytes : ℕ) → ℕ
most_calls commands bytes = 33 * (commands + 2 * bytes + 1)

-- Why a run is too long: so many reads were made, as the bytes taken show, or the commands and
-- the bytes, those that clients write too, allow a client so many calls.
abbrev pub IsTooLong : (script : Scripted) → (start turns : ℕ) → (ahead taken : List ℕ) → Type 0
IsTooLong script start turns ahead taken =
    ((turns ≡ 2 ^ 32) × (2 ^ 32 ≤ start + length taken))
    ⊎ ((turns ≡ MOST_CALLS) × (MOST_CALLS
    ≤ most_calls (all_commands script.lines) (length ahead + length taken + bytes_written script)))

-- the bytes that a reply gives, or names as lost
abbrev pub bytes_in : Response → ℕ
bytes_in (Data bytes) = length bytes
bytes_in (Overflow from to item need room) = to - from
bytes_in _ = 0
