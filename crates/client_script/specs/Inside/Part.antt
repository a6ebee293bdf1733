-- What is known of the first bytes of an input that were searched for the line `stream`.
use Rattle.std.specs.Prelude.{◌≡◌, ◌≤◌, ℕ, ◌+◌, ◌==◌, false, List, ◌∷◌, ◌++◌, length, drop, Option, None}
use Rattle.client_script.specs.Imports.{All, option_map}
use Rattle.client_script.specs.Script.{script_len, whole_lines}

-- none of these bytes is a line feed
abbrev pub HasNoFeed : List ℕ → Type 0
HasNoFeed bytes = All (λ byte. (byte == 10) ≡ false) bytes

-- bytes fall into a line without its line feed, and those behind
abbrev pub FallsInto : (bytes line behind : List ℕ) → Type 0
FallsInto bytes line behind = HasNoFeed line × (bytes ≡ line ++ 10 ∷ behind)

-- The first so many bytes are whole lines, none of which is `stream`: whatever follows, the script ends as many bytes
-- behind the front of the others as it does in the others alone.
abbrev pub Passes : (count : ℕ) → List ℕ → Type 0
Passes count bytes =
    (more : List ℕ) → script_len (whole_lines (bytes ++ more))
    ≡ option_map (λ n. count + n) (script_len (whole_lines (drop count bytes ++ more)))

-- Bytes that were searched: `end` is what the script part of them has, and as long as there is none, they are
-- whole lines and a line that has begun.
pub record IsSearched (bytes : List ℕ) (begun : ℕ) (end : Option ℕ) : Type 0 where
  pub found : end ≡ script_len (whole_lines bytes)
  pub front : begun ≤ length bytes
  pub passed : end ≡ None → Passes begun bytes
  pub line : end ≡ None → HasNoFeed (drop begun bytes)
