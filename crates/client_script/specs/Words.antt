-- The words of a line, and what words in their places spell (this project's own).
use Rattle.std.specs.Prelude.{◌≡◌, ℕ, ◌==◌, List, [], ◌∷◌, Option, Some, None, Result, Ok, Err}
use Rattle.client_script.specs.Imports.{slice_split}
use Rattle.client_script.specs.declared.fault.FaultKind.{FaultKind}
use Rattle.client_script.specs.declared.fault.FaultKind.TheVariants.{Count}
use Rattle.client_script.specs.declared.wanted.WantedWord.{WantedWord}
use Rattle.client_script.specs.declared.wanted.WordFault.{WordFault}

-- the words of a line: it is split at each single space, byte 32
abbrev pub words_of : List ℕ → List (List ℕ)
words_of line = slice_split (λ byte. byte == 32) line

-- what the words at the front spell, with the words behind them; or the first fault, with the words behind those that were read
-- up to it: the last of them is the word at fault, but for a word that is missing
abbrev pub Reading : Type 0 → Type 0
Reading A = Result (A × List (List ℕ)) (WordFault × List (List ℕ))

-- what follows from the value that was spelled and from the words behind it; a fault stays the first
abbrev pub and_then : {A B : Type 0} → Reading A → (A → List (List ℕ) → Reading B) → Reading B
and_then (Ok read) next = next read.0 read.1
and_then (Err fault) next = Err fault

-- the same value under a name
abbrev pub mapped : {A B : Type 0} → (A → B) → Reading A → Reading B
mapped name reading = and_then reading (λ value words. Ok (name value, words))

-- the value that a word spells; where it spells none, the fault is of this kind, in a place that asks for this
abbrev pub or_fault : {A : Type 0} → FaultKind → WantedWord → Option A → (behind : List (List ℕ)) → Reading A
or_fault kind wanted (Some value) behind = Ok (value, behind)
or_fault kind wanted None behind = Err (record { kind = kind; wanted = wanted }, behind)

-- the word in the next place, which asks for this; a missing word is a fault of the count
unfoldable pub word_in : WantedWord → List (List ℕ) → Reading (List ℕ)
word_in wanted [] = Err (record { kind = Count; wanted = wanted }, [])
word_in wanted (word ∷ words) = Ok (word, words)

-- What the word in the next place spells, as that place asks; where it spells nothing of the sort, the fault is of this
-- kind. So a number from 1 to 9 is read from `7 x` as 7, with the word `x` behind it (specs/Examples.antt, `OneWord`).
abbrev pub next_as : {A : Type 0} → FaultKind → WantedWord → (spelled : List ℕ → Option A)
    → List (List ℕ) → Reading A
next_as kind wanted spelled words = and_then (word_in wanted words) (λ word words. or_fault kind wanted (spelled word) words)

-- a reader has answered as the definition says, and has left the words behind what it read
abbrev pub Reads : {A : Type 0} → Result A WordFault → (left : List (List ℕ)) → Reading A → Type 0
Reads (Ok value) left reading = reading ≡ Ok (value, left)
Reads (Err fault) left reading = reading ≡ Err (fault, left)
