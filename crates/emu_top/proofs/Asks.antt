-- What an input asks, by the bytes that were taken of it.
use Rattle.emu_top.proofs.Imports.{◌≡◌, ◌<◌, ◌≤◌, ◌+◌, ◌⊎◌, refl, sym, ap, subst, ◌∙◌, ℕ, zero, suc, Bool, true, false, List, [], ◌∷◌, ◌++◌, length, take, drop, get_or, append-nil, append_assoc, inl, inr, arith, length-append, nat_tests, take_all, take-append-le, take-append-drop, drop-append-le, length-take, Consumes-trans, Option, Some, None, Ok, Err, IfSome, IfNone, nat_le, Consumes, IsAtEnd, SourceEnd, Number, NoStream, ScriptFault, whole_lines, HasNoFeed, first, whole_lines-line, whole_lines-none, Asked, asked_in, asked_behind, in_front, script_asked, size_of, EndsInLine, FailsToRead, HasFirstFault, AsksFor, Begins, asked}

-- ------ the first line

skip_line : (line more : List ℕ) → drop (length line + 1) ((line ++ 10 ∷ []) ++ more) ≡ more
skip_line [] more = refl
skip_line (byte ∷ line) more =
    let on : length (byte ∷ line) + 1 ≡ suc (length line + 1) = omega arith in
    ap (λ n. drop n (((byte ∷ line) ++ 10 ∷ []) ++ more)) on ∙ skip_line line more

take_line : (n : ℕ) (line more : List ℕ) → length line < n → (rest : List ℕ) × (take n ((line ++ 10 ∷ []) ++ more) ≡ line ++ 10 ∷ rest)
take_line zero line more fits = absurd (omega (arith, fits))
take_line (suc n) [] more fits = (take n more, refl)
take_line (suc n) (byte ∷ line) more fits = let r = take_line n line more (omega (arith, fits)) in (r.0, ap (λ xs. byte ∷ xs) r.1)

asked_front : (line more : List ℕ) → ((zs : List ℕ) → whole_lines (line ++ 10 ∷ zs) ≡ line ∷ whole_lines zs) → length line < 40 → asked ((line ++ 10 ∷ []) ++ more) ≡ asked_in more (size_of line)
unfolding asked
asked_front line more stays fits =
    let r = take_line 40 line more fits in
    let lines : whole_lines (take 40 ((line ++ 10 ∷ []) ++ more)) ≡ line ∷ whole_lines r.0 = ap whole_lines r.1 ∙ stays r.0 in
    ap (asked_behind ((line ++ 10 ∷ []) ++ more)) lines ∙ ap (λ behind. asked_in behind (size_of line)) (skip_line line more)

-- a whole line among the first 40 bytes
asked_line : (line more : List ℕ) → HasNoFeed line → length line < 40 → asked ((line ++ 10 ∷ []) ++ more) ≡ asked_in more (size_of line)
asked_line line more none fits = asked_front line more (λ zs. whole_lines-line line zs none) fits

front_of : (bytes more : List ℕ) → length bytes ≤ 40 → (length bytes ≡ 40) ⊎ (more ≡ []) → take 40 (bytes ++ more) ≡ bytes
front_of bytes more few (inl is) = take-append-le 40 bytes more (omega (arith, is)) ∙ take_all 40 bytes few
front_of bytes more few (inr none) = ap (λ m. take 40 (bytes ++ m)) none ∙ (ap (take 40) (append-nil bytes) ∙ take_all 40 bytes few)

-- no whole line among them
asked_none : (bytes more : List ℕ) → HasNoFeed bytes → length bytes ≤ 40 → (length bytes ≡ 40) ⊎ (more ≡ []) → asked (bytes ++ more) ≡ Err (in_front Number)
unfolding asked
asked_none bytes more none few end = ap (asked_behind (bytes ++ more)) (ap whole_lines (front_of bytes more few end) ∙ whole_lines-none bytes none)

-- ------ the first fault of an input

-- what is so of all that the bytes taken may be followed by is so of the input
pub of_input : (content left : Option (List ℕ)) (bytes : List ℕ) (fault : ScriptFault) → Consumes content left bytes
    → ((rest : List ℕ) → left ≡ Some rest → script_asked (asked (bytes ++ rest)) ≡ Err fault) → IfSome content (λ input. script_asked (asked input) ≡ Err fault)
of_input None left bytes fault con each = tt
of_input (Some input) None bytes fault con each = absurd con
of_input (Some input) (Some rest) bytes fault con each = ap (λ xs. script_asked (asked xs)) con ∙ each rest refl

at_end : (left : Option (List ℕ)) (rest : List ℕ) → left ≡ Some rest → IsAtEnd left → rest ≡ []
at_end left rest is end = subst IsAtEnd is end

ended : (left : Option (List ℕ)) (rest : List ℕ) (n : ℕ) → left ≡ Some rest → (n ≡ 40) ⊎ IsAtEnd left → (n ≡ 40) ⊎ (rest ≡ [])
ended left rest n is (inl size) = inl size
ended left rest n is (inr end) = inr (at_end left rest is end)

-- no first line
pub no_line : (x y : SourceEnd) (bytes : List ℕ) → Consumes x.left y.left bytes → y.faults ≡ x.faults → HasNoFeed bytes → length bytes ≤ 40 → (length bytes ≡ 40) ⊎ IsAtEnd y.left
    → HasFirstFault (in_front Number) x y
no_line x y bytes con steady none few end =
    (steady, of_input x.left y.left bytes (in_front Number) con (λ rest is. ap script_asked (asked_none bytes rest none few (ended y.left rest (length bytes) is end))))

-- a first line that isn't of its form
pub other_line : (x y : SourceEnd) (line : List ℕ) (size : Option ℕ) → Consumes x.left y.left (line ++ 10 ∷ []) → y.faults ≡ x.faults → HasNoFeed line → length line < 40 → size_of line ≡ size → size ≡ None
    → HasFirstFault (in_front Number) x y
other_line x y line size con steady none fits is other =
    (steady, of_input x.left y.left (line ++ 10 ∷ []) (in_front Number) con (λ rest at. ap script_asked (asked_line line rest none fits ∙ ap (asked_in rest) (is ∙ other))))

-- and one that is
pub sized : (x y : SourceEnd) (line : List ℕ) (size : ℕ) → Consumes x.left y.left (line ++ 10 ∷ []) → y.faults ≡ x.faults → HasNoFeed line → length line < 40 → size_of line ≡ Some size → AsksFor size x y
sized x y line size con steady none fits is = record {
  bytes = line ++ 10 ∷ [];
  taken = con;
  steady = steady;
  parts = λ more. asked_line line more none fits ∙ ap (asked_in more) is;
}

-- one byte was read
pub one_byte : (into : List ℕ) (n : ℕ) → length into ≡ 1 → n ≤ length into → 1 ≤ n → get_or into 0 0 ≡ 10 → take n into ≡ 10 ∷ []
one_byte [] n one within some is = absurd (omega (arith, one))
one_byte (byte ∷ []) zero one within some is = absurd (omega (arith, some))
one_byte (byte ∷ []) (suc zero) one within some is = ap (λ b. b ∷ []) is
one_byte (byte ∷ []) (suc (suc n)) one within some is = absurd (omega (arith, within))
one_byte (byte ∷ next ∷ bytes) n one within some is = absurd (omega (arith, one))

-- by what was read of it
pub when_sized : (x y : SourceEnd) (line : List ℕ) (size : Option ℕ) → Consumes x.left y.left (line ++ 10 ∷ []) → y.faults ≡ x.faults → HasNoFeed line → length line < 40 → size ≡ size_of line
    → IfSome size (λ n. AsksFor n x y)
when_sized x y line None con steady none fits is = tt
when_sized x y line (Some n) con steady none fits is = sized x y line n con steady none fits (sym is)

pub when_other : (x y : SourceEnd) (line : List ℕ) (size : Option ℕ) → Consumes x.left y.left (line ++ 10 ∷ []) → y.faults ≡ x.faults → HasNoFeed line → length line < 40 → size ≡ size_of line
    → IfNone size (HasFirstFault (in_front Number) x y)
when_other x y line None con steady none fits is = other_line x y line None con steady none fits (sym is) refl
when_other x y line (Some n) con steady none fits is = tt

-- ------ the report

in_full : (size : ℕ) (report more : List ℕ) → length report ≡ size → asked_in (report ++ more) (Some size) ≡ Ok (record { report = report; session = more })
in_full size report more is =
    let fits : nat_le size (length (report ++ more)) ≡ true = grind (arith, nat_tests, length-append report more) in
    let front : take size (report ++ more) ≡ report = take-append-le size report more (omega (arith, is)) ∙ take_all size report (omega (arith, is)) in
    let behind : drop size (report ++ more) ≡ more = rw (← is) (drop_front report more) in
    rw (fits, front, behind) refl
  where
    drop_front : (xs ys : List ℕ) → drop (length xs) (xs ++ ys) ≡ ys
    drop_front [] ys = refl
    drop_front (x ∷ xs) ys = drop_front xs ys

too_short : (size : ℕ) (bytes : List ℕ) → length bytes < size → asked_in bytes (Some size) ≡ Err (in_front NoStream)
too_short size bytes short =
    let fits : nat_le size (length bytes) ≡ false = grind (arith, nat_tests) in
    rw fits refl

-- a report that was read whole
pub begins : (x y z : SourceEnd) (size : ℕ) (report : List ℕ) → AsksFor size x y → Consumes y.left z.left report → z.faults ≡ y.faults → length report ≡ size → Begins report x z
begins x y z size report a con steady is = record {
  bytes = a.bytes ++ report;
  taken = Consumes-trans _ _ _ _ _ a.taken con;
  steady = steady ∙ a.steady;
  parts = λ more. ap asked (append_assoc a.bytes report more) ∙ (a.parts (report ++ more) ∙ in_full size report more is);
}

-- ------ reads that fail

pub in_line : (bytes : List ℕ) → HasNoFeed bytes → length bytes < 40 → EndsInLine bytes
in_line bytes none few = (few, whole_lines-none bytes none)

pub fails_in_report : (x y z : SourceEnd) (size : ℕ) (bytes : List ℕ) → AsksFor size x y → Consumes y.left z.left bytes → length bytes < size → z.faults ≡ y.faults + 1 → FailsToRead x z
fails_in_report x y z size bytes a con short is = record {
  bytes = a.bytes ++ bytes;
  taken = Consumes-trans _ _ _ _ _ a.taken con;
  ends = inr (inl (a.parts bytes ∙ too_short size bytes short));
  rose = rw (← a.steady) (omega (arith, is));
}

-- ------ more bytes

in_more : (b more : List ℕ) (size : Option ℕ) (a : Asked) → asked_in b size ≡ Ok a → asked_in (b ++ more) size ≡ Ok (record { report = a.report; session = a.session ++ more })
in_more b more None a e = absurd (cc)
in_more b more (Some size) a e = by (nat_le size (length b)) refl where
  by : (t : Bool) → nat_le size (length b) ≡ t → asked_in (b ++ more) (Some size) ≡ Ok (record { report = a.report; session = a.session ++ more })
  by true t =
      let within : size ≤ length b = grind (arith, nat_tests, t) in
      let fits : nat_le size (length (b ++ more)) ≡ true = grind (arith, nat_tests, length-append b more, within) in
      let here : Asked = record { report = take size b; session = drop size b } in
      let is : Ok here ≡ Ok a = rw t at e in
      let same : here ≡ a = cc in
      let front : take size (b ++ more) ≡ a.report = take-append-le size b more within ∙ ap (λ r. r.report) same in
      let behind : drop size (b ++ more) ≡ a.session ++ more = drop-append-le size b more within ∙ ap (λ r. r.session ++ more) same in
      rw (fits, front, behind) refl
  by false t = let is : Err (in_front NoStream) ≡ Ok a = rw t at e in absurd (cc)

more_by : (bytes more : List ℕ) (a : Asked) (lines : List (List ℕ)) → whole_lines (take 40 bytes) ≡ lines → asked bytes ≡ Ok a → asked (bytes ++ more) ≡ Ok (record { report = a.report; session = a.session ++ more })
unfolding asked
more_by bytes more a [] w e = let is : Err (in_front Number) ≡ Ok a = sym (ap (asked_behind bytes) w) ∙ e in absurd (cc)
more_by bytes more a (line ∷ lines) w e =
    let f = first (take 40 bytes) line lines w in
    let rest = f.behind ++ drop 40 bytes in
    let size : length (take 40 bytes) ≡ length line + length (10 ∷ f.behind) = ap length f.split_so ∙ length-append line (10 ∷ f.behind) in
    let fits : length line < 40 = omega (arith, size, length-take 40 bytes) in
    let is : bytes ≡ (line ++ 10 ∷ []) ++ rest =
    sym (take-append-drop 40 bytes) ∙ (ap (λ xs. xs ++ drop 40 bytes) f.split_so ∙ (append_assoc line (10 ∷ f.behind) (drop 40 bytes) ∙ sym (append_assoc line (10 ∷ []) rest))) in
    let here : asked_in rest (size_of line) ≡ Ok a = sym (asked_front line rest f.stays fits) ∙ (ap asked (sym is) ∙ e) in
    let longer : bytes ++ more ≡ (line ++ 10 ∷ []) ++ (rest ++ more) = ap (λ xs. xs ++ more) is ∙ append_assoc (line ++ 10 ∷ []) rest more in
    ap asked longer ∙ (asked_front line (rest ++ more) f.stays fits ∙ in_more rest more (size_of line) a here)

-- what bytes ask they ask in front of others, but for a longer session
pub asked_more : (bytes more : List ℕ) (a : Asked) → asked bytes ≡ Ok a → asked (bytes ++ more) ≡ Ok (record { report = a.report; session = a.session ++ more })
asked_more bytes more a e = more_by bytes more a (whole_lines (take 40 bytes)) refl e
