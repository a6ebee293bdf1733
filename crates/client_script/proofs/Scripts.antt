-- What the lines that were read and the bytes behind them make of a script.
use Rattle.client_script.proofs.Imports.{◌≡◌, refl, true, false, ℕ, List, [], ◌∷◌, ◌+◌, count_by, ◌==◌, Option, Ok, Err, meaning, Parsed, Scripted, plain, with_said, whole_lines, is_stream, ScriptFault, NoStream, None, Said, lines_from, grammar}

-- a script of which this was read; the next line has this number
unfoldable pub script_by : ScriptFault → Scripted → (number : ℕ) → List ℕ → Parsed
script_by missing s number bytes = lines_from missing number s (whole_lines bytes)

-- the fault of a script without a line `stream`
abbrev pub missing_in : List ℕ → ScriptFault
missing_in bytes = record { line = 1 + count_by (λ byte. byte == 10) bytes; kind = NoStream; word = None }

pub script_by-start : (bytes : List ℕ) → grammar bytes ≡ script_by (missing_in bytes) (plain []) 1 bytes
unfolding script_by grammar
script_by-start bytes = refl

pub script_by-end : (missing : ScriptFault) (s : Scripted) (number : ℕ) (bytes : List ℕ) → whole_lines bytes ≡ [] → script_by missing s number bytes ≡ Err missing
unfolding script_by lines_from
script_by-end missing s number bytes none = rw none refl

pub script_by-stream : (missing : ScriptFault) (s : Scripted) (number : ℕ) (bytes line : List ℕ) (more : List (List ℕ)) → whole_lines bytes ≡ line ∷ more → is_stream line ≡ true → script_by missing s number bytes ≡ Ok s
unfolding script_by lines_from
script_by-stream missing s number bytes line more some same = rw (some, same) refl

pub script_by-fault : (missing : ScriptFault) (s : Scripted) (number : ℕ) (bytes line : List ℕ) (more : List (List ℕ)) (fault : ScriptFault) → whole_lines bytes ≡ line ∷ more → is_stream line ≡ false → meaning number line ≡ Err fault
    → script_by missing s number bytes ≡ Err fault
unfolding script_by lines_from
script_by-fault missing s number bytes line more fault some other means = rw (some, other, means) refl

pub script_by-line : (missing : ScriptFault) (s : Scripted) (number : ℕ) (bytes line behind : List ℕ) (said : Option Said) → whole_lines bytes ≡ line ∷ whole_lines behind → is_stream line ≡ false → meaning number line ≡ Ok said
    → script_by missing s number bytes ≡ script_by missing (with_said said s) (number + 1) behind
unfolding script_by lines_from
script_by-line missing s number bytes line behind said some other means = rw (some, other, means) refl
