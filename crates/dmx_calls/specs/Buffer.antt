-- What a contract sees of the buffer of a read.
use Rattle.std.specs.Prelude.{ℕ, List}

-- the number of bytes that it has room for, and the bytes in it
pub record Buffer : Type 0 where
  pub count : ℕ
  pub bytes : List ℕ
