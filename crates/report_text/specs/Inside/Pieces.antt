-- A text that is written in pieces, out of a buffer.
use Rattle.std.specs.Prelude.{◌≡◌, ◌<◌, ℕ, List, ◌++◌, length, take, Option}
use Rattle.report_text.specs.Imports.{Appends}

-- Below `old` and `new` are the bytes that the sink was given before and after, `waited` and `waits` those that wait.

-- This text came behind the bytes that waited: a front of both was written, and the rest waits.
pub record Adds (old new : Option (List ℕ)) (waited waits text : List ℕ) : Type 0 where
  pub front : List ℕ
  pub written : Appends old new front
  pub rest : waited ++ text ≡ front ++ waits

-- A write failed: of the bytes that waited and of this text behind them a part was written, from the front on.
pub record AddsPart (old new : Option (List ℕ)) (waited text : List ℕ) : Type 0 where
  pub count : ℕ
  pub part : count < length (waited ++ text)
  pub written : Appends old new (take count (waited ++ text))

-- some text came behind the bytes that waited, of which this is said
abbrev pub AddsSome : (old new : Option (List ℕ)) → (waited waits : List ℕ) → (List ℕ → Type 0) → Type 0
AddsSome old new waited waits IsSo = (text : List ℕ) × Adds old new waited waits text × IsSo text
