-- What a source tells, and what a sink tells.
use Rattle.std.specs.Prelude.{ℕ, List}
use Rattle.std.specs.declared.option.Option.{Option}

-- A source: the bytes that are left, where it tells them, and how often a read has failed.
pub record SourceEnd : Type 0 where
  pub left : Option (List ℕ)
  pub faults : ℕ

-- A sink: the bytes that were written, where it tells them, and how often a write has failed.
pub record SinkEnd : Type 0 where
  pub written : Option (List ℕ)
  pub faults : ℕ
