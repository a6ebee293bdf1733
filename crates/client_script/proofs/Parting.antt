-- What stands behind a script's line `stream` is never examined.
use Rattle.client_script.proofs.Imports.{◌≡◌, ◌<◌, ◌≤◌, ◌+◌, refl, sym, ap, ◌∙◌, ℕ, suc, Bool, true, false, List, [], ◌∷◌, ◌++◌, length, take, drop, get_or, arith, add-one, length-append, nat_tests, take-append-drop, get_or-take, length-take, length-take-le, take-take, All-from_get_or, position-Some, slice_split_at, drop-cons, take-append-add, option_map, ◌==◌, Result, Ok, Err, if◌then◌else◌, All, slice_split, position, without_last, whole_lines, is_stream, Parsed, Scripted, plain, with_said, script_len, parted, most_bytes, meaning, ScriptFault, Said, lines_from, grammar, split}
use Rattle.std.proofs.Common.{Option, Some, None}
use Rattle.client_script.proofs.Cuts.{cut-some, cut-none, first-line}

-- bytes with a first whole line: that line, its line feed, and the bytes behind it
pub record First (xs line : List ℕ) (more : List (List ℕ)) : Type 0 where
  pub behind : List ℕ
  pub split_so : xs ≡ line ++ 10 ∷ behind
  pub stays : (zs : List ℕ) → whole_lines (line ++ 10 ∷ zs) ≡ line ∷ whole_lines zs
  pub others : more ≡ whole_lines behind

-- bytes up to the first line feed have none
pub lacks : (xs : List ℕ) (i : ℕ) → i ≤ length xs → ((k : ℕ) → k < i → (get_or xs k 0 == 10) ≡ false) → All (λ x. (x == 10) ≡ false) (take i xs)
lacks xs i within none =
    All-from_get_or (λ x. (x == 10) ≡ false) (take i xs) 0 (λ k b.
    let below : k < i = omega (arith, length-take-le i xs within) in
    rw (get_or-take i xs k 0 below) (none k below))

-- and it parts them from those behind
pub parts : (xs : List ℕ) (i : ℕ) → i < length xs → (get_or xs i 0 == 10) ≡ true → xs ≡ take i xs ++ 10 ∷ drop (i + 1) xs
parts xs i below feed =
    let ten : get_or xs i 0 ≡ 10 = grind (arith, nat_tests) in
    let cut : drop i xs ≡ 10 ∷ drop (i + 1) xs = rw (add-one i, ← ten) (drop-cons xs i 0 below) in
    rw (← cut) (sym (take-append-drop i xs))

first_at : (xs line : List ℕ) (more : List (List ℕ)) → whole_lines xs ≡ line ∷ more → (r : Option ℕ) → position (λ byte. byte == 10) xs ≡ r → First xs line more
first_at xs line more w None e =
    let one : slice_split (λ byte. byte == 10) xs ≡ xs ∷ [] = cut-none (λ byte. byte == 10) xs e in
    let none : whole_lines xs ≡ [] = ap without_last one in
    absurd (cc)
first_at xs line more w (Some i) e =
    let at = position-Some (λ (byte : ℕ). byte == 10) xs i 0 e in
    let below : i < length xs = at.0 in
    let mine : whole_lines xs ≡ take i xs ∷ whole_lines (drop (i + 1) xs) = first-line xs (take i xs) (drop (i + 1) xs) (cut-some (λ byte. byte == 10) xs i e) in
    let this : take i xs ≡ line = cc in
    let others : more ≡ whole_lines (drop (i + 1) xs) = cc in
    let free : All (λ x. (x == 10) ≡ false) (take i xs) = lacks xs i (omega arith) at.2 in
    record {
      behind = drop (i + 1) xs;
      split_so = rw (← this) (parts xs i below at.1);
      stays = λ zs. rw (← this) (first-line (take i xs ++ 10 ∷ zs) (take i xs) zs (slice_split_at (λ (byte : ℕ). byte == 10) (take i xs) 10 zs free refl));
      others = others;
    }

pub first : (xs line : List ℕ) (more : List (List ℕ)) → whole_lines xs ≡ line ∷ more → First xs line more
first xs line more w = first_at xs line more w (position (λ byte. byte == 10) xs) refl

-- ------ as many bytes as the script has

taken : (xs line behind : List ℕ) (n : ℕ) → xs ≡ line ++ 10 ∷ behind → take (length line + 1 + n) xs ≡ line ++ 10 ∷ take n behind
taken xs line behind n e = rw e (
    let sum : length line + 1 + n ≡ length line + suc n = omega arith in
    rw sum (take-append-add line (10 ∷ behind) (suc n)))

-- that many bytes have the same script, and there are that many
abbrev AreEnough : (xs : List ℕ) (lines : List (List ℕ)) (n : ℕ) → Type 0
AreEnough xs lines n = (n ≤ length xs) × ((k : ℕ) (m m' : ScriptFault) (s : Scripted) → lines_from m k s (whole_lines (take n xs)) ≡ lines_from m' k s lines)

long : (xs line behind : List ℕ) → xs ≡ line ++ 10 ∷ behind → length xs ≡ length line + 1 + length behind
long xs line behind e = rw e (omega (arith, length-append line (10 ∷ behind)))

at_stream : (xs line : List ℕ) (more : List (List ℕ)) (n : ℕ) → First xs line more → is_stream line ≡ true → n ≡ length line + 1 → AreEnough xs (line ∷ more) n
unfolding lines_from
at_stream xs line more n f is e =
    let sum : n ≡ length line + 1 + 0 = omega arith in
    let cut : take n xs ≡ line ++ 10 ∷ [] = rw sum (taken xs line f.behind 0 f.split_so) in
    let here : whole_lines (take n xs) ≡ line ∷ whole_lines [] = ap whole_lines cut ∙ f.stays [] in
    (omega (arith, long xs line f.behind f.split_so), λ k m m' s. rw (here, is) refl)

-- behind a line, where what follows it is the same
on_line : (k : ℕ) (m m' : ScriptFault) (s : Scripted) (lines others : List (List ℕ)) → ((t : Scripted) → lines_from m (k + 1) t lines ≡ lines_from m' (k + 1) t others) → (r : Result (Option Said) ScriptFault)
    → ◌≡◌ {A = Parsed} (elim r [ Err fault ↦ Err fault | Ok said ↦ lines_from m (k + 1) (with_said said s) lines ])
    (elim r [ Err fault ↦ Err fault | Ok said ↦ lines_from m' (k + 1) (with_said said s) others ])
on_line k m m' s lines others same (Err fault) = refl
on_line k m m' s lines others same (Ok said) = same (with_said said s)

at_other : (xs line : List ℕ) (more : List (List ℕ)) (n n' : ℕ) → (f : First xs line more) → AreEnough f.behind more n' → is_stream line ≡ false → n ≡ length line + 1 + n' → AreEnough xs (line ∷ more) n
unfolding lines_from
at_other xs line more n n' f enough is e =
    let cut : take n xs ≡ line ++ 10 ∷ take n' f.behind = rw e (taken xs line f.behind n' f.split_so) in
    let here : whole_lines (take n xs) ≡ line ∷ whole_lines (take n' f.behind) = ap whole_lines cut ∙ f.stays (take n' f.behind) in
    let some : n' ≤ length f.behind = enough.0 in
    (omega (arith, long xs line f.behind f.split_so), λ k m m' s. rw (here, is) (on_line k m m' s (whole_lines (take n' f.behind)) more (enough.1 (k + 1) m m') (meaning k line)))

behind_some : (xs line : List ℕ) (more : List (List ℕ)) (n : ℕ) → (f : First xs line more) → ((n' : ℕ) → script_len more ≡ Some n' → AreEnough f.behind more n') → is_stream line ≡ false
    → (r : Option ℕ) → script_len more ≡ r → option_map (λ n. length line + 1 + n) r ≡ Some n → AreEnough xs (line ∷ more) n
behind_some xs line more n f each is None e s = absurd (cc)
behind_some xs line more n f each is (Some n') e s =
    let sum : length line + 1 + n' ≡ n = cc in
    at_other xs line more n n' f (each n' e) is (sym sum)

by_line : (xs line : List ℕ) (more : List (List ℕ)) (n : ℕ) → (f : First xs line more) → ((n' : ℕ) → script_len more ≡ Some n' → AreEnough f.behind more n')
    → (b : Bool) → is_stream line ≡ b → (if b then Some (length line + 1) else option_map (λ n. length line + 1 + n) (script_len more)) ≡ Some n → AreEnough xs (line ∷ more) n
by_line xs line more n f each true is s =
    let sum : length line + 1 ≡ n = cc in
    at_stream xs line more n f is (sym sum)
by_line xs line more n f each false is s = behind_some xs line more n f each is (script_len more) refl s

enough : (lines : List (List ℕ)) (xs : List ℕ) (n : ℕ) → whole_lines xs ≡ lines → script_len lines ≡ Some n → AreEnough xs lines n
enough [] xs n w s = absurd (cc)
enough (line ∷ more) xs n w s =
    let f = first xs line more w in
    by_line xs line more n f (λ n' e. enough more f.behind n' (sym f.others) e) (is_stream line) refl s

-- where the script of these bytes ends, they have enough bytes for it
pub front_of : (front : List ℕ) (n : ℕ) → script_len (whole_lines front) ≡ Some n → (n ≤ length front) × (grammar (take n front) ≡ grammar front)
unfolding grammar
front_of front n e =
    let h = enough (whole_lines front) front n refl e in
    (h.0, h.1 1 _ _ (plain []))

part_of : (input : List ℕ) (most n : ℕ) → script_len (whole_lines (take most input)) ≡ Some n → grammar (take n input) ≡ grammar (take most input)
part_of input most n e =
    let h = front_of (take most input) n e in
    let within : n ≤ most = omega (arith, h.0, length-take most input) in
    rw (← take-take n most input within) h.1

by_parts : (input : List ℕ) (r : Option ℕ) → script_len (whole_lines (take most_bytes input)) ≡ r → grammar (parted input r).script ≡ grammar (take most_bytes input)
by_parts input None e = refl
by_parts input (Some n) e = part_of input most_bytes n e

-- a script part has the lines, or the fault, of all bytes that are searched for it
pub grammar-split : (input : List ℕ) → grammar (split input).script ≡ grammar (take most_bytes input)
unfolding split
grammar-split input = by_parts input (script_len (whole_lines (take most_bytes input))) refl
