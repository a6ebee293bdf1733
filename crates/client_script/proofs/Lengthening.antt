-- The line `stream` ends behind all bytes that don't hold it.
use Rattle.client_script.proofs.Imports.{◌≡◌, ◌<◌, ◌≤◌, ◌+◌, refl, sym, ap, ◌∙◌, ℕ, suc, Bool, true, false, List, [], ◌∷◌, ◌++◌, length, take, drop, append_assoc, arith, length-append, inl, inr, cases_lt, take-append-drop, take-append-le, take-append-add, Option, Some, None, if◌then◌else◌, option_map, whole_lines, is_stream, script_len}
use Rattle.client_script.proofs.Parting.{First, first}

by_test : (line : List ℕ) (n : ℕ) (b : Bool) (r : Option ℕ) → (if b then Some (length line + 1) else option_map (λ n. length line + 1 + n) r) ≡ Some n → length line < n
by_test line n true r e =
    let sum : length line + 1 ≡ n = cc in
    omega arith
by_test line n false None e = absurd (cc)
by_test line n false (Some m) e =
    let sum : length line + 1 + m ≡ n = cc in
    omega arith

-- a script is longer than its first line
longer : (line : List ℕ) (lines : List (List ℕ)) (n : ℕ) → script_len (line ∷ lines) ≡ Some n → length line < n
longer line lines n e = by_test line n (is_stream line) (script_len lines) e

-- bytes that begin a whole line, and have no whole line, are fewer than that line has
no_line : (xs ys line : List ℕ) (more : List (List ℕ)) → whole_lines xs ≡ [] → First (xs ++ ys) line more → length xs ≤ length line
no_line xs ys line more none f = elim (cases_lt (length line) (length xs)) [
  | inl short ↦
      let front : take (length line + 1) xs ≡ take (length line + 1) (xs ++ ys) = sym (take-append-le (length line + 1) xs ys (omega arith)) in
      let here : take (length line + 1) (line ++ 10 ∷ f.behind) ≡ line ++ take 1 (10 ∷ f.behind) = take-append-add line (10 ∷ f.behind) 1 in
      let whole : take (length line + 1) xs ≡ line ++ 10 ∷ [] = front ∙ (ap (take (length line + 1)) f.split_so ∙ here) in
      let rest = drop (length line + 1) xs in
      let all : xs ≡ line ++ 10 ∷ rest = sym (take-append-drop (length line + 1) xs) ∙ (ap (λ front. front ++ rest) whole ∙ append_assoc line (10 ∷ []) rest) in
      let lines : whole_lines xs ≡ line ∷ whole_lines rest = ap whole_lines all ∙ f.stays rest in
      absurd (cc)
  | inr le ↦ omega arith
]

by_first : (xs ys : List ℕ) (n : ℕ) → whole_lines xs ≡ [] → script_len (whole_lines (xs ++ ys)) ≡ Some n → (lines : List (List ℕ)) → whole_lines (xs ++ ys) ≡ lines → length xs < n
by_first xs ys n w e [] is =
    let is_none : script_len (whole_lines (xs ++ ys)) ≡ None = ap script_len is in
    absurd (cc)
by_first xs ys n w e (line ∷ more) is =
    let found : script_len (line ∷ more) ≡ Some n = sym (ap script_len is) ∙ e in
    let long : length line < n = longer line more n found in
    let short : length xs ≤ length line = no_line xs ys line more w (first (xs ++ ys) line more is) in
    omega arith

other_by : (line : List ℕ) (more : List (List ℕ)) (b : Bool) (r : Option ℕ) → is_stream line ≡ b → script_len more ≡ r → (if b then Some (length line + 1) else option_map (λ n. length line + 1 + n) r) ≡ None → (is_stream line ≡ false) × (script_len more ≡ None)
other_by line more true r is e none = absurd (cc)
other_by line more false None is e none = (is, e)
other_by line more false (Some m) is e none = absurd (cc)

by_rest : (line behind ys : List ℕ) (n : ℕ) → ((m : ℕ) → script_len (whole_lines (behind ++ ys)) ≡ Some m → length behind < m) → (r : Option ℕ) → script_len (whole_lines (behind ++ ys)) ≡ r → option_map (λ n. length line + 1 + n) r ≡ Some n → length line + 1 + length behind < n
by_rest line behind ys n each None is e = absurd (cc)
by_rest line behind ys n each (Some m) is e =
    let sum : length line + 1 + m ≡ n = cc in
    let long : length behind < m = each m is in
    omega arith

later_by : (lines : List (List ℕ)) (xs ys : List ℕ) (n : ℕ) → whole_lines xs ≡ lines → script_len lines ≡ None → script_len (whole_lines (xs ++ ys)) ≡ Some n → length xs < n
later_by [] xs ys n w none e = by_first xs ys n w e (whole_lines (xs ++ ys)) refl
later_by (line ∷ more) xs ys n w none e =
    let f = first xs line more w in
    let o = other_by line more (is_stream line) (script_len more) refl refl none in
    let all : xs ++ ys ≡ line ++ 10 ∷ (f.behind ++ ys) = ap (λ front. front ++ ys) f.split_so ∙ append_assoc line (10 ∷ f.behind) ys in
    let lines : whole_lines (xs ++ ys) ≡ line ∷ whole_lines (f.behind ++ ys) = ap whole_lines all ∙ f.stays (f.behind ++ ys) in
    let step : script_len (whole_lines (xs ++ ys)) ≡ option_map (λ n. length line + 1 + n) (script_len (whole_lines (f.behind ++ ys))) = rw (lines, o.0) refl in
    let long : length line + 1 + length f.behind < n = by_rest line f.behind ys n (λ m is. later_by more f.behind ys m (sym f.others) o.1 is) (script_len (whole_lines (f.behind ++ ys))) refl (sym step ∙ e) in
    let size : length xs ≡ length line + suc (length f.behind) = ap length f.split_so ∙ length-append line (10 ∷ f.behind) in
    omega arith

-- bytes that don't hold the line `stream` are fewer than those that end with it
pub stream_ends_later : (xs ys : List ℕ) (n : ℕ) → script_len (whole_lines xs) ≡ None → script_len (whole_lines (xs ++ ys)) ≡ Some n → length xs < n
stream_ends_later xs ys n none e = later_by (whole_lines xs) xs ys n refl none e
