-- The first bytes of an input, up to and with the line `stream`.
use Rattle.emu_top.proofs.Imports.{◌≡◌, ◌<◌, ◌≤◌, ◌+◌, ◌-◌, refl, sym, ap, ◌∙◌, ℕ, Bool, true, false, List, [], ◌∷◌, ◌++◌, length, take, drop, arith, length-append, take_all, length-drop, Option, Some, None, IfSome, Result, Ok, Err, unwrap_or, if◌then◌else◌, option_map, meaning, whole_lines, is_stream, script_len, plain, with_said, Parsed, most_bytes, IsScript, Scripted, Said, ScriptFault, stream_ends_later, front_of, split-found, PacketSize, Pulling, Pulls, ScriptError, Fault, IsRead, Holds, IsFaultIn, status_of_error}
use Rattle.client_script.specs.Script.{grammar, lines_from}
use Rattle.client_script.specs.declared.fault.ScriptError.TheVariants.{NoMemory}

-- ------ how many bytes may stand ahead

ahead_by : (xs ys : List ℕ) → script_len (whole_lines xs) ≡ None → length ys ≤ 65536 → (r : Option ℕ) → script_len (whole_lines (xs ++ ys)) ≡ r → IfSome r (λ n. length (xs ++ ys) ≤ n + 65535)
ahead_by xs ys none short None e = tt
ahead_by xs ys none short (Some n) e =
    let later : length xs < n = stream_ends_later xs ys n none e in
    let size : length (xs ++ ys) ≡ length xs + length ys = length-append xs ys in
    omega arith

-- a read behind bytes that lack the line `stream` brings at most 65,535 bytes behind it
pub ahead_of : (xs ys : List ℕ) → script_len (whole_lines xs) ≡ None → length ys ≤ 65536 → IfSome (script_len (whole_lines (xs ++ ys))) (λ n. length (xs ++ ys) ≤ n + 65535)
ahead_of xs ys none short = ahead_by xs ys none short (script_len (whole_lines (xs ++ ys))) refl

-- ------ a script without a fault has the line `stream`

parted_by : (line : List ℕ) (more : List (List ℕ)) (b : Bool) (r : Option ℕ) → is_stream line ≡ b → script_len more ≡ r → (if b then Some (length line + 1) else option_map (λ n. length line + 1 + n) r) ≡ None → (is_stream line ≡ false) × (script_len more ≡ None)
parted_by line more true r is e none = absurd (cc)
parted_by line more false None is e none = (is, e)
parted_by line more false (Some m) is e none = absurd (cc)

faulty_by : (k : ℕ) (missing : ScriptFault) (s asked : Scripted) (more : List (List ℕ)) (m : Result (Option Said) ScriptFault) → ((t : Scripted) → lines_from missing (k + 1) t more ≡ Ok asked → ⊥)
    → ◌≡◌ {A = Parsed} (elim m [ Err fault ↦ Err fault | Ok said ↦ lines_from missing (k + 1) (with_said said s) more ]) (Ok asked) → ⊥
faulty_by k missing s asked more (Err fault) none e = absurd (cc)
faulty_by k missing s asked more (Ok said) none e = none (with_said said s) e

faulty : (lines : List (List ℕ)) (missing : ScriptFault) (k : ℕ) (s asked : Scripted) → script_len lines ≡ None → lines_from missing k s lines ≡ Ok asked → ⊥
unfolding lines_from
faulty [] missing k s asked none e = absurd (cc)
faulty (line ∷ more) missing k s asked none e =
    let o = parted_by line more (is_stream line) (script_len more) refl refl none in
    let here : ◌≡◌ {A = Parsed} (elim (meaning k line) [ Err fault ↦ Err fault | Ok said ↦ lines_from missing (k + 1) (with_said said s) more ]) (Ok asked) = rw o.0 at e in
    faulty_by k missing s asked more (meaning k line) (λ t is. faulty more missing (k + 1) t asked o.1 is) here

no_script : (bytes : List ℕ) (script : Scripted) → script_len (whole_lines bytes) ≡ None → grammar bytes ≡ Ok script → ⊥
unfolding grammar
no_script bytes script none e = faulty (whole_lines bytes) _ 1 (plain []) script none e

-- ------ the bytes of the script part

-- up to and with the line `stream`, or all of them
abbrev pub part_of : Option ℕ → List ℕ → List ℕ
part_of r bytes = take (unwrap_or r (length bytes)) bytes

pub grammar_of_part : (bytes : List ℕ) (r : Option ℕ) → script_len (whole_lines bytes) ≡ r → grammar (part_of r bytes) ≡ grammar bytes
grammar_of_part bytes None e = ap grammar (take_all (length bytes) bytes (omega arith))
grammar_of_part bytes (Some n) e = (front_of bytes n e).1

pub holds : (first : List ℕ) (r : Option ℕ) (size : PacketSize) (script : Scripted) (puller : Pulling) → length first ≤ most_bytes → script_len (whole_lines first) ≡ r
    → grammar (part_of r first) ≡ Ok script → IsScript script → Pulls (drop (unwrap_or r (length first)) first) [] [] puller → puller.start ≤ length first → puller.cutting.size ≡ size → Holds first size script puller
holds first None size script puller few e says known pulls reads takes_up = absurd (no_script first script e (sym (grammar_of_part first None e) ∙ says))
holds first (Some n) size script puller few e says known pulls reads takes_up = record {
  part = take n first;
  ahead = drop n first;
  splits = λ more. split-found first more n few e;
  says = says;
  known = known;
  pulls = pulls;
  reads = reads;
  takes_up = takes_up;
}

-- a script part that isn't read has a fault of the grammar, or memory was refused
pub fault_is : (first : List ℕ) (r : Option ℕ) (error : ScriptError) → script_len (whole_lines first) ≡ r → IsRead (Err error) (grammar (part_of r first)) → IsFaultIn first (status_of_error error)
fault_is first r (Fault fault) e read = sym (grammar_of_part first r e) ∙ read
fault_is first r NoMemory e read = tt

-- the bytes behind the script part are those that stand ahead in the puller
pub pulls_ahead : (items bytes first : List ℕ) (end : ℕ) (r : Option ℕ) (p : Pulling) → Pulls items [] [] p → items ≡ take (length bytes - end) (drop end bytes) → bytes ≡ first
    → end ≡ unwrap_or r (length bytes) → Pulls (drop (unwrap_or r (length first)) first) [] [] p
pulls_ahead items bytes first end r p pulls is same at =
    let all : take (length bytes - end) (drop end bytes) ≡ drop end bytes = take_all (length bytes - end) (drop end bytes) (omega (arith, length-drop end bytes)) in
    let here : items ≡ drop end bytes = is ∙ all in
    rw (← same, ← at, ← here) pulls
