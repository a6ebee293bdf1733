-- The names of clients, slots and nodes: letters and numbers (this project's own).
use Rattle.std.specs.Prelude.{ℕ, ◌+◌, ◌-◌, ◌==◌, List, [], ◌∷◌, ◌++◌, Option, Some, None, if◌then◌else◌, codes}
use Rattle.text_forms.specs.Imports.{decimal, option_map}
use Rattle.text_forms.specs.Numbers.{number_between}
use Rattle.text_forms.specs.Words.{is_word}

-- the number from 0 to `most` that stands behind this letter, and is the rest of the word
unfoldable pub numbered : (letter most : ℕ) → List ℕ → Option ℕ
numbered letter most (first ∷ number) = if first == letter then number_between 0 most number else None
numbered letter most [] = None

-- ------ in a script

-- client K as `cK`
abbrev pub client_text : ℕ → List ℕ
client_text client = codes "c" ++ decimal client

-- the client of a word `c0` to `c7`; `c` is byte 99
abbrev pub client_named : List ℕ → Option ℕ
client_named word = numbered 99 7 word

-- demux node K as `nK`
abbrev pub demux_text : ℕ → List ℕ
demux_text node = codes "n" ++ decimal node

-- the demux node of a word `n0` to `n31`; `n` is byte 110
abbrev pub demux_named : List ℕ → Option ℕ
demux_named word = numbered 110 31 word

-- slot K as `hK`
abbrev pub slot_text : ℕ → List ℕ
slot_text slot = codes "h" ++ decimal slot

-- the slot of a word `h0` to `h31`; `h` is byte 104
abbrev pub slot_named : List ℕ → Option ℕ
slot_named word = numbered 104 31 word

-- ------ in a report

-- a caller: caller 0 is the feeder, and client K is caller K + 1
unfoldable pub who_text : ℕ → List ℕ
who_text who = if who == 0 then codes "feed" else client_text (who - 1)

-- the caller of a word `feed` or `c0` to `c7`
unfoldable pub who_named : List ℕ → Option ℕ
who_named word = if is_word word (codes "feed") then Some 0 else option_map (λ client. client + 1) (client_named word)

-- a node: 0 to 31 are the demux nodes, and 32 is the dvr node
unfoldable pub node_text : ℕ → List ℕ
node_text node = if node == 32 then codes "dvr" else decimal node

-- the node of a word `0` to `31` or `dvr`
unfoldable pub node_named : List ℕ → Option ℕ
node_named word = if is_word word (codes "dvr") then Some 32 else number_between 0 31 word
