-- Text that is put behind other bytes.
use Rattle.std.specs.Prelude.{◌≡◌, ◌++◌, ◌+◌, ◌<◌, ◌≤◌, ℕ, List, Result, Vec, OnOk, OnErr, vec_len, vec_capacity}
use Rattle.text_forms.specs.Imports.{Global}

-- the text stands behind the others, or memory was refused, which isn't where there is room for n bytes; at most n were put
-- there, and no room was given back
pub record Appended {T E : Type 0} (n : ℕ) (text : List ℕ) (old new : Vec ℕ Global) (result : Result T E) : Type 0 where
  pub items : OnOk result (new.items ≡ old.items ++ text)
  pub full : OnErr result (vec_capacity old < vec_len old + n)
  pub few : vec_len new ≤ vec_len old + n
  pub room : vec_capacity old ≤ vec_capacity new
