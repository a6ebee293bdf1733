-- The machine that adds.
use Rattle.std.specs.Prelude.{ℕ, List, map, sum}
use Rattle.machine.specs.declared.example.Added.{Added}

-- the sum of the numbers that were added, and how many they are
pub record Sum : Type 0 where
  pub sum : ℕ
  pub made : ℕ

-- the sum of the numbers of a history
abbrev pub total : List Added → ℕ
total h = sum (map (λ e. e.number) h)
