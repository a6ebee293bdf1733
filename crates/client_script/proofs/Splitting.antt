-- How an input falls into its parts, by its first bytes.
use Rattle.client_script.proofs.Imports.{◌≡◌, ◌≤◌, ◌+◌, ◌-◌, refl, sym, ap, ◌∙◌, ℕ, Bool, true, false, List, [], ◌∷◌, ◌++◌, length, take, drop, append_assoc, append-nil, arith, inl, inr, take-append-le, drop-append-le, take_all, take-append_seam, take-append-add, Option, Some, None, if◌then◌else◌, option_map, whole_lines, is_stream, script_len, most_bytes, split}
use Rattle.std.specs.Prelude.{◌⊎◌}
use Rattle.client_script.proofs.Parting.{First, first, front_of}

-- ------ the script ends in the same place, whatever follows

stays_behind : (xs line more : List ℕ) (lines : List (List ℕ)) (n : ℕ) → (f : First xs line lines) → ((n' : ℕ) → script_len lines ≡ Some n' → script_len (whole_lines (f.behind ++ more)) ≡ Some n')
    → (r : Option ℕ) → script_len lines ≡ r → option_map (λ n. length line + 1 + n) r ≡ Some n → option_map (λ n. length line + 1 + n) (script_len (whole_lines (f.behind ++ more))) ≡ Some n
stays_behind xs line more lines n f each None e s = absurd (cc)
stays_behind xs line more lines n f each (Some n') e s = rw (each n' e) s

stays_by : (xs line more : List ℕ) (lines : List (List ℕ)) (n : ℕ) → (f : First xs line lines) → ((n' : ℕ) → script_len lines ≡ Some n' → script_len (whole_lines (f.behind ++ more)) ≡ Some n')
    → (b : Bool) → is_stream line ≡ b → (if b then Some (length line + 1) else option_map (λ n. length line + 1 + n) (script_len lines)) ≡ Some n
    → (if b then Some (length line + 1) else option_map (λ n. length line + 1 + n) (script_len (whole_lines (f.behind ++ more)))) ≡ Some n
stays_by xs line more lines n f each true is s = s
stays_by xs line more lines n f each false is s = stays_behind xs line more lines n f each (script_len lines) refl s

script_len-stays : (lines : List (List ℕ)) (xs : List ℕ) (n : ℕ) → whole_lines xs ≡ lines → script_len lines ≡ Some n → (more : List ℕ) → script_len (whole_lines (xs ++ more)) ≡ Some n
script_len-stays [] xs n w s more = absurd (cc)
script_len-stays (line ∷ lines) xs n w s more =
    let f = first xs line lines w in
    let text : xs ++ more ≡ line ++ 10 ∷ (f.behind ++ more) = ap (λ (ys : List ℕ). ys ++ more) f.split_so ∙ append_assoc line (10 ∷ f.behind) more in
    let here : whole_lines (xs ++ more) ≡ line ∷ whole_lines (f.behind ++ more) = ap whole_lines text ∙ f.stays (f.behind ++ more) in
    rw here (stays_by xs line more lines n f (λ n' e. script_len-stays lines f.behind n' (sym f.others) e more) (is_stream line) refl s)

pub script_len-more : (xs more : List ℕ) (n : ℕ) → script_len (whole_lines xs) ≡ Some n → script_len (whole_lines (xs ++ more)) ≡ Some n
script_len-more xs more n s = script_len-stays (whole_lines xs) xs n refl s more

pub script_len-within : (xs : List ℕ) (n : ℕ) → script_len (whole_lines xs) ≡ Some n → n ≤ length xs
script_len-within xs n s = let h = front_of xs n s in h.0

-- ------ the parts of an input

searched : (xs others : List ℕ) (most : ℕ) → length xs ≤ most → take most (xs ++ others) ≡ xs ++ take (most - length xs) others
searched xs others most within =
    let sum : length xs + (most - length xs) ≡ most = omega arith in
    ap (λ (count : ℕ). take count (xs ++ others)) (sym sum) ∙ take-append-add xs others (most - length xs)

pub split-found : (xs others : List ℕ) (n : ℕ) → length xs ≤ most_bytes → script_len (whole_lines xs) ≡ Some n → split (xs ++ others) ≡ record { script = take n xs; stream = Some (drop n xs ++ others) }
unfolding split
split-found xs others n within s =
    let front : script_len (whole_lines (xs ++ take (most_bytes - length xs) others)) ≡ Some n = script_len-more xs (take (most_bytes - length xs) others) n s in
    let inside : n ≤ length xs = script_len-within xs n s in
    rw (searched xs others most_bytes within, front, take-append-le n xs others inside, drop-append-le n xs others inside) refl

all_searched : (xs others : List ℕ) (most : ℕ) → length xs ≤ most → (length xs ≡ most) ⊎ (others ≡ []) → take most (xs ++ others) ≡ xs
all_searched xs others most within (inl full) = rw (← full) (take-append_seam xs others)
all_searched xs others most within (inr none) = rw (none, append-nil xs) (take_all most xs within)

pub split-missing : (xs others : List ℕ) → length xs ≤ most_bytes → script_len (whole_lines xs) ≡ None → (length xs ≡ most_bytes) ⊎ (others ≡ []) → split (xs ++ others) ≡ record { script = xs; stream = None }
unfolding split
split-missing xs others within s all = rw (all_searched xs others most_bytes within all, s, all_searched xs others most_bytes within all) refl
