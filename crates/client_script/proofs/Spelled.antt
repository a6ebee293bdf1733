-- All writes of a script have no more bytes than the script.
use Rattle.client_script.proofs.Imports.{◌≡◌, ◌≤◌, ◌+◌, refl, ap, subst, ℕ, zero, suc, Bool, true, false, List, [], ◌∷◌, ◌++◌, length, map, codes, arith, slice_split-cons_yes, slice_split-cons_no, sum_by-cons, ◌==◌, Option, Some, None, Ok, slice_index_or, slice_set, sum, slice_split, onto_first, is_word, and_then, mapped, or_fault, next_as, words_of, written_named, name_of, command_in, dvr_named, Scripted, plain, with_said, writes_of, whole_lines, without_last, NoTarget, Bytes, Said, Asks, Writes, Target, Line, write_in, asked_in, line_in, meaning, grammar, word_in}
use Rattle.client_script.specs.declared.wanted.WantedWord.TheVariants as wanted
use Rattle.client_script.proofs.Numbering.{Gives, if_gives, under_a_name, line_gives, Means, line_means, holds_at_end}
use Rattle.client_script.proofs.Writing.{named_short}

-- ------ the pieces of a list

-- how many bytes these have
abbrev pub lens : List (List ℕ) → ℕ
lens [] = 0
lens (piece ∷ pieces) = length piece + lens pieces

first_long : (x : ℕ) (pieces : List (List ℕ)) → lens (onto_first x pieces) ≤ 1 + lens pieces
first_long x [] = omega arith
first_long x (piece ∷ pieces) = omega arith

pieces_long : (p : ℕ → Bool) (xs : List ℕ) → lens (slice_split p xs) ≤ length xs
pieces_long p [] = omega arith
pieces_long p (x ∷ xs) = go (p x) refl (pieces_long p xs) where
  go : (b : Bool) → p x ≡ b → lens (slice_split p xs) ≤ length xs → lens (slice_split p (x ∷ xs)) ≤ length (x ∷ xs)
  go true yea deeper = omega (arith, ap lens (slice_split-cons_yes p x xs yea), deeper)
  go false nay deeper = omega (arith, ap lens (slice_split-cons_no p x xs nay), first_long x (slice_split p xs), deeper)

last_long : (pieces : List (List ℕ)) → lens (without_last pieces) ≤ lens pieces
last_long [] = omega arith
last_long (piece ∷ []) = omega arith
last_long (piece ∷ next ∷ more) = let deeper = last_long (next ∷ more) in omega (arith, deeper)

lines_long : (bytes : List ℕ) → lens (whole_lines bytes) ≤ length bytes
lines_long bytes = omega (arith, last_long (slice_split (λ byte. byte == 10) bytes), pieces_long (λ byte. byte == 10) bytes)

-- ------ what a line writes

-- no more bytes are written than this
abbrev IsShort : ℕ → Said → Type 0
IsShort most (Asks line) = Unit {0}
IsShort most (Writes line client bytes) = length bytes ≤ most

module _ (most : ℕ) where
  from_named : (line client : ℕ) (o : Option (List ℕ)) (words : List (List ℕ)) → ((bytes : List ℕ) → o ≡ Some bytes → length bytes ≤ most) → Gives (IsShort most) (mapped (Writes line client) (or_fault Bytes wanted.Written o words))
  from_named line client None words each = tt
  from_named line client (Some bytes) words each = each bytes refl

  hex_in : (line client : ℕ) (words : List (List ℕ)) → lens words ≤ most → Gives (IsShort most) (mapped (Writes line client) (next_as Bytes wanted.Written written_named words))
  unfolding word_in
  hex_in line client [] few = tt
  hex_in line client (word ∷ words) few = from_named line client (written_named word) words (λ bytes is. omega (arith, named_short word bytes is, few))

  target_in : (line client : ℕ) (o : Option Target) (words : List (List ℕ)) → lens words ≤ most
      → Gives (IsShort most) (and_then (or_fault NoTarget wanted.Dvr o words) (λ target words. mapped (Writes line client) (next_as Bytes wanted.Written written_named words)))
  target_in line client None words few = tt
  target_in line client (Some target) words few = hex_in line client words few

  write_short : (line client : ℕ) (words : List (List ℕ)) → lens words ≤ most → Gives (IsShort most) (write_in line client words)
  unfolding write_in word_in
  write_short line client [] few = tt
  write_short line client (word ∷ words) few = target_in line client (dvr_named word) words (omega (arith, few))

  asked_short : (line client : ℕ) (words : List (List ℕ)) → lens words ≤ most → Gives (IsShort most) (asked_in line client words)
  unfolding asked_in word_in
  asked_short line client [] few = tt
  asked_short line client (word ∷ words) few =
      if_gives (IsShort most) (is_word word (codes "write")) (write_in line client words) (mapped Asks (command_in line client (name_of word) words)) (write_short line client words (omega (arith, few)))
      (under_a_name {A = Line} (IsShort most) Asks (command_in line client (name_of word) words) (λ x. tt))

line_short : (most line : ℕ) (words : List (List ℕ)) → lens words ≤ most → Gives (IsShort most) (line_in line words)
line_short most line words few = line_gives (IsShort most) (λ n. tt) (λ n. tt) line words (λ first more client is. asked_short most line client more (omega (arith, few, ap lens is)))

meaning_short : (line : ℕ) (bytes : List ℕ) → Means (IsShort (length bytes)) (meaning line bytes)
meaning_short line bytes = line_means (IsShort (length bytes)) line bytes (line_short (length bytes) line (words_of bytes) (pieces_long (λ byte. byte == 32) bytes))

-- ------ how many bytes are written

abbrev size_of : List (List ℕ) → ℕ
size_of writes = sum (map (λ bytes. length bytes) writes)

-- by all clients
abbrev pub written_in : Scripted → ℕ
written_in script = sum (map (λ writes. sum (map (λ bytes. length bytes) writes)) script.writes)

one_more : (writes : List (List ℕ)) (bytes : List ℕ) → size_of (writes ++ bytes ∷ []) ≡ size_of writes + length bytes
one_more [] bytes = omega (arith, sum_by-cons (λ n. n) (length bytes) [])
one_more (w ∷ writes) bytes =
    omega (
      arith,
      sum_by-cons (λ n. n) (length w) (map (λ bytes. length bytes) (writes ++ bytes ∷ [])),
      sum_by-cons (λ n. n) (length w) (map (λ bytes. length bytes) writes),
      one_more writes bytes,
    )

set_more : (writes : List (List (List ℕ))) (client : ℕ) (more : List (List ℕ)) (n : ℕ) → size_of more ≤ size_of (slice_index_or writes client []) + n
    → sum (map size_of (slice_set writes client more)) ≤ sum (map size_of writes) + n
set_more [] client more n le = omega arith
set_more (w ∷ writes) zero more n le = omega (arith, le, sum_by-cons (λ k. k) (size_of more) (map size_of writes), sum_by-cons (λ k. k) (size_of w) (map size_of writes))
set_more (w ∷ writes) (suc client) more n le =
    omega (
      arith,
      sum_by-cons (λ k. k) (size_of w) (map size_of (slice_set writes client more)),
      sum_by-cons (λ k. k) (size_of w) (map size_of writes),
      set_more writes client more n le,
    )

said_more : (most : ℕ) (said : Option Said) (s : Scripted) → Means (IsShort most) (Ok said) → written_in (with_said said s) ≤ written_in s + most
said_more most None s is = omega arith
said_more most (Some (Asks line)) s is = omega arith
said_more most (Some (Writes line client bytes)) s is =
    omega (arith, is, set_more s.writes client (writes_of client s.writes ++ bytes ∷ []) (length bytes) (omega (arith, one_more (writes_of client s.writes) bytes)))

-- with the lines to come no more bytes are written than this
abbrev HasFew : ℕ → Scripted → List (List ℕ) → Type 0
HasFew most s lines = written_in s + lens lines ≤ most

pub are_spelled : (bytes : List ℕ) (s : Scripted) → grammar bytes ≡ Ok s → written_in s ≤ length bytes
unfolding grammar
are_spelled bytes s e = omega (arith, (holds_at_end (HasFew (length bytes)) _ each 1 (plain []) s (whole_lines bytes) start e).1) where
  start : HasFew (length bytes) (plain []) (whole_lines bytes)
  start = let none : written_in (plain []) ≡ 0 = refl in omega (arith, none, lines_long bytes)

  each : (line : ℕ) (first : List ℕ) (more : List (List ℕ)) (said : Option Said) (u : Scripted) → meaning line first ≡ Ok said → HasFew (length bytes) u (first ∷ more) → HasFew (length bytes) (with_said said u) more
  each line first more said u means few = omega (arith, few, said_more (length first) said u (subst (Means (IsShort (length first))) means (meaning_short line first)))
